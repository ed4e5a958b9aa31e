-- What expressions are worth at a desk.
use Rattle.std.specs.Prelude.{ℕ, ◌+◌, nat_le, if◌then◌else◌, length, List, map, Option, option_map}
use Rattle.msg_core.specs.Chain.{Content}
use Rattle.msg_core.specs.Parts.{longest_body}
use Rattle.layer_mean.specs.Tree.{part, ExpressionTree, MessageTree, EmissionTree, held, tail, join}
use Rattle.layer_mean.specs.Value.{val, mval}
use Rattle.layer_mean.specs.Effect.{header_of, sent_as}
use Rattle.layer_desk.specs.Laid.{Laid}
use Rattle.layer_desk.specs.Need.{Need, message_need}

abbrev pub number_of : ExpressionTree → Laid → ℕ
number_of e p = val e p.state p.scope

abbrev pub message_of : MessageTree → Laid → Content
message_of m p = mval m p.state p.scope

abbrev pub size_of : MessageTree → Laid → ℕ
size_of m p = length (message_of m p).body

-- The numbers of expressions, in order.
abbrev pub numbers_of : List ExpressionTree → Laid → List ℕ
numbers_of es p = map (λ e. number_of e p) es

-- The size of a join of messages of these sizes.
abbrev pub joined_size : ℕ → ℕ → ℕ
joined_size first second = if nat_le (first + second) longest_body then first + second else second

-- A message of which the bytes alone are of use: what stands in for a message that isn't there has no headers.
abbrev pub bare : MessageTree → MessageTree
bare (held c i row carried) = held c i row part
bare (tail m from) = tail (bare m) from
bare (join p m) = join p (bare m)
bare m = m

-- Its need.
abbrev pub bare_need : MessageTree → Need
bare_need m = record (message_need m) { misfits = 0 }

-- The message of an emission, if it has one, with the header that is pushed on it going down.
abbrev pub message_sent : ℕ → EmissionTree → Laid → Option Content
message_sent place e p =
    option_map (λ c. sent_as e.direction (header_of place c p.state p.scope) (message_of c.message p)) e.content
