use Rattle.chart_draw.proofs.marks.draw_words.Goals as goal

pub returns : goal.returns
returns c = rw (c.bytes.ensures, c.in_ok-put_label.ensures, c.new-label.ensures, c.words_y.ensures) at
    c.draw_words_at.ensures
