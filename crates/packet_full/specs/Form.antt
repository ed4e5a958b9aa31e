-- One header, as it is read.
use Rattle.layer_mean.specs.Tree.{HeaderTree}
use Rattle.packet_full.specs.declared.form.Form.{Form}

-- What is read of a header that is declared.
abbrev pub form_of : HeaderTree → Form
form_of header = record { fields = header.fields; ends = header.ends }
