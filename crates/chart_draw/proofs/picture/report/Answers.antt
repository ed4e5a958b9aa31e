use Rattle.audit_mean.specs.declared.law.Law.TheVariants.{Sender}
use Rattle.chart_mean.proofs.Drawn.{pictured_where_judged, fits_where_judged, refused_where_refused}
use Rattle.chart_draw.proofs.picture.report.Goals as goal

pub returns-in-Ok : goal.returns-in-Ok
returns-in-Ok c = λ excerpt. (
  fits_where_judged Sender excerpt c.args.text.now _ c.in-Ok.ensures,
  pictured_where_judged Sender excerpt c.args.text.now _ c.in-Ok.ensures,
)

pub returns-in-Err-TooLarge : goal.returns-in-Err-TooLarge
returns-in-Err-TooLarge c = λ excerpt. refused_where_refused Sender excerpt c.args.text.now _
    (rw c.in-Err-TooLarge.field-0-is at c.in-Err-TooLarge.ensures)

pub returns-in-Err-Line : goal.returns-in-Err-Line
returns-in-Err-Line c = λ excerpt. refused_where_refused Sender excerpt c.args.text.now _
    (rw c.in-Err-Line.field-0-is at c.in-Err-Line.ensures)
