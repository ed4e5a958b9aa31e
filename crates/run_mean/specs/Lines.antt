-- The lines of a report, one for each thing that it tells. Each ends with a line feed.
use Rattle.std.specs.Prelude.{ℕ, List, [], ◌∷◌, ◌++◌, map, codes}
use Rattle.std.specs.List.{join_by, enumerate_from}
use Rattle.std.specs.Fmt.{decimal}
use Rattle.msg_core.specs.declared.packet.Dest.{Dest}
use Rattle.msg_core.specs.declared.packet.Dest.TheVariants.{All, Rank}
use Rattle.msg_core.specs.declared.packet.Packet.{Packet}
use Rattle.msg_core.specs.declared.packet.Stray.{Stray}
use Rattle.msg_core.specs.declared.packet.Stray.TheVariants as stray
use Rattle.msg_core.specs.declared.packet.View.{View}
use Rattle.layer_mean.specs.Tree.{LayerTree, Form, numbers, queue, queues}
use Rattle.layer_mean.specs.State.{Contents, numbers_in, queues_in}
use Rattle.run_mean.specs.Member.{Refusal, is_out, too_big, is_stray}
use Rattle.script_mean.specs.EventText.{hex_text}
use Rattle.run_mean.specs.Text.{chain_text, rows_text}

-- Words with a space between, and a line feed after the last.
abbrev pub line : List (List ℕ) → List ℕ
line words = join_by (λ word. word) (codes " ") words ++ codes "\n"

-- `deliver M cast P HEX` and `deliver M send P HEX`: a delivery at member M from rank P.
abbrev pub deliver_line : ℕ → List ℕ → ℕ → List ℕ → List ℕ
deliver_line id what peer body = line (codes "deliver" ∷ decimal id ∷ what ∷ decimal peer ∷ hex_text body ∷ [])

-- `block M A`, `announce M A` and `timer M A`: a word, a member and a number.
abbrev pub number_line : List ℕ → ℕ → ℕ → List ℕ
number_line what id a = line (what ∷ decimal id ∷ decimal a ∷ [])

-- Whom a packet is for: `all`, or a rank.
abbrev pub dest_text : Dest → List ℕ
dest_text All = codes "all"
dest_text (Rank rank) = decimal rank

-- `packet K M D CHAIN HEX`: packet K of member M.
abbrev pub packet_line : List LayerTree → ℕ → ℕ → Packet → List ℕ
packet_line stack k id p =
    line (codes "packet" ∷ decimal k ∷ decimal id ∷ dest_text p.dest ∷ chain_text stack p.message.headers ∷
    hex_text p.message.body ∷ [])

-- `wire K HEX`: the bytes of packet K as it is sent.
abbrev pub wire_line : ℕ → List ℕ → List ℕ
wire_line k bytes = line (codes "wire" ∷ decimal k ∷ hex_text bytes ∷ [])

-- `view M LTIME MASK` and `state M LTIME MASK`: a word, a member and its view.
abbrev pub view_line : List ℕ → ℕ → View → List ℕ
view_line what id view = line (what ∷ decimal id ∷ decimal view.ltime ∷ decimal view.mask ∷ [])

-- `out M`: member M leaves.
abbrev pub out_line : ℕ → List ℕ
out_line id = line (codes "out" ∷ decimal id ∷ [])

-- `state M out`: member M, which is shown, is out.
abbrev pub state_out_line : ℕ → List ℕ
state_out_line id = line (codes "state" ∷ decimal id ∷ codes "out" ∷ [])

-- The word for why a datagram is stray.
abbrev pub stray_text : Stray → List ℕ
stray_text stray.Short = codes "short"
stray_text stray.Form = codes "form"
stray_text stray.Group = codes "group"
stray_text stray.Stamp = codes "stamp"
stray_text stray.View = codes "view"
stray_text stray.Sender = codes "sender"
stray_text stray.Dest = codes "dest"
stray_text stray.Plan = codes "plan"
stray_text stray.Chain = codes "chain"
stray_text stray.Body = codes "body"

-- The word for why an input is refused.
abbrev pub cause_text : Refusal → List ℕ
cause_text is_out = codes "out"
cause_text too_big = codes "big"
cause_text (is_stray cause) = stray_text cause

-- `refused M CAUSE`.
abbrev pub refused_line : ℕ → Refusal → List ℕ
refused_line id cause = line (codes "refused" ∷ decimal id ∷ cause_text cause ∷ [])

-- `absent M K`.
abbrev pub absent_line : ℕ → ℕ → List ℕ
absent_line id k = line (codes "absent" ∷ decimal id ∷ decimal k ∷ [])

-- `cell M P LAYER.CELL VALUES`.
abbrev pub cell_line : ℕ → ℕ → LayerTree → List ℕ → List ℕ → List ℕ
cell_line id place layer name values =
    line (codes "cell" ∷ decimal id ∷ decimal place ∷ (layer.name ++ codes "." ++ name) ∷ values ∷ [])

-- Numbers with a space between.
abbrev pub numbers_text : List ℕ → List ℕ
numbers_text ns = join_by decimal (codes " ") ns

-- The name of queue i of an array: CELL[I].
abbrev pub queue_name : List ℕ → ℕ → List ℕ
queue_name name i = name ++ codes "[" ++ decimal i ++ codes "]"

-- The names and the values of a cell by its form: the numbers of a cell, the rows of a queue, or those of each queue of
-- an array.
abbrev pub cell_values : List LayerTree → List ℕ → Form → Contents → List (List ℕ × List ℕ)
cell_values stack name (numbers shape initial) held = (name, numbers_text (numbers_in held)) ∷ []
cell_values stack name (queue capacity items) held = map (λ rows. (name, rows_text stack rows)) (queues_in held)
cell_values stack name (queues capacity items) held =
    map (λ q. (queue_name name q.0, rows_text stack q.1)) (enumerate_from 0 (queues_in held))
