use Rattle.file_parse.proofs.declarations.queue_of.Goals as goal

pub returns-in-One : goal.returns-in-One
returns-in-One c = rw c.in-One.is record { spelled = λ k tokens h. h }
