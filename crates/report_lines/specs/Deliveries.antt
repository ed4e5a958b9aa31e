-- Deliveries and packets as their lines name them.
use Rattle.std.specs.Prelude.{ℕ, List, ◌∷◌, [], ◌++◌, codes}
use Rattle.std.specs.Fmt.{decimal}
use Rattle.msg_core.specs.declared.message.Header.{Header}
use Rattle.msg_core.specs.declared.packet.Dest.{Dest}
use Rattle.layer_mean.specs.Tree.{LayerTree}
use Rattle.script_mean.specs.EventText.{hex_text}
use Rattle.run_mean.specs.Lines.{line, dest_text}
use Rattle.run_mean.specs.Text.{chain_text}
use Rattle.report_lines.specs.declared.lines.Delivery.{Delivery}
use Rattle.report_lines.specs.declared.lines.Delivery.TheVariants.{Cast, Send}

abbrev pub delivery_text : Delivery → List ℕ
delivery_text Cast = codes "cast"
delivery_text Send = codes "send"

-- What stands before the body in the line of a delivery.
abbrev pub delivery_front : ℕ → (word : List ℕ) → ℕ → List ℕ
delivery_front id word peer = codes "deliver " ++ decimal id ++ codes " " ++ word ++ codes " " ++ decimal peer ++
    codes " "

-- What stands after a packet's number: the member whose packet it is, and whom it is for.
abbrev pub address_text : ℕ → (dest : List ℕ) → List ℕ
address_text id dest = codes " " ++ decimal id ++ codes " " ++ dest ++ codes " "

-- What a packet's line ends with.
abbrev pub contents_text : List LayerTree → List Header → List ℕ → List ℕ
contents_text stack headers body = chain_text stack headers ++ codes " " ++ hex_text body ++ codes "\n"

-- The line of a packet of which these parts are told.
abbrev pub packet_text : List LayerTree → ℕ → ℕ → Dest → List Header → List ℕ → List ℕ
packet_text stack number id dest headers body =
    line (codes "packet" ∷ decimal number ∷ decimal id ∷ dest_text dest ∷ chain_text stack headers ∷ hex_text body ∷ [])
