-- Rows as they are shown.
use Rattle.std.specs.Prelude.{option_map}
use Rattle.msg_core.specs.Chain.{Content}
use Rattle.layer_mean.specs.declared.run.Row.{Row}
use Rattle.member_reads.specs.declared.row.MessageView.{MessageView}
use Rattle.member_reads.specs.declared.row.RowView.{RowView}

abbrev pub message_meant : MessageView → Content
message_meant m = record { headers = m.headers.now; body = m.body.now }

abbrev pub row_meant : RowView → Row
row_meant r = record { numbers = r.numbers.now; message = option_map message_meant r.message }
