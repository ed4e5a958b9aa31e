-- Parts of messages: the messages that bytes of others make.
use Rattle.std.specs.Prelude.{ℕ, ◌+◌, ◌++◌, nat_le, if◌then◌else◌, length, take, drop}
use Rattle.msg_core.specs.Chain.{Content, plain}

-- The most bytes of a body.
abbrev pub longest_body : ℕ
longest_body = 8192

-- A part: `count` bytes of a message from a place on, as far as there are any, and no headers.
abbrev pub cut : Content → ℕ → ℕ → Content
cut m from count = plain (take count (drop from m.body))

-- A message without its bytes before a place.
abbrev pub tail : Content → ℕ → Content
tail m from = record { headers = m.headers; body = drop from m.body }

-- A message with the bytes of a part before its own; it stays as it is where they would be more than a body has.
abbrev pub join : Content → Content → Content
join p m = if nat_le (length p.body + length m.body) longest_body
    then record { headers = m.headers; body = p.body ++ m.body }
    else m
