-- A desk as its fields make it out, and that it is in order.
use Rattle.std.specs.Prelude.{◌≡◌, ℕ, ◌-◌, ◌≤◌, List, Option, map, length, vec_capacity}
use Rattle.slot_pool.specs.Held.{Held, spare}
use Rattle.layer_words.specs.declared.sorts.Shape.{Shape}
use Rattle.layer_desk.specs.Need.{Layout, Room}
use Rattle.layer_desk.specs.Spent.{Begun}
use Rattle.cell_store.specs.Kept.{capacity_of}
use Rattle.cell_store.specs.Fresh.{kept_form}
use Rattle.live_layer.specs.Stock.{Stock}
use Rattle.live_layer.specs.Steps.{InPool}
use Rattle.live_layer.specs.Fits.{StockFits, SentGrows, most_bound}
use Rattle.live_layer.specs.declared.desk.FileDesk.{FileDesk}

abbrev pub stock_of : FileDesk → Stock
stock_of d = record {
  kept = d.cells;
  numbers = d.numbers.items;
  messages = d.tray.messages.items;
  arrived = d.tray.arrived;
  hand = d.hand.items;
  sent = d.tray.sent.items;
}

-- What its cells are: the shape of each, and the capacity where it has queues.
abbrev pub forms_of : FileDesk → List (Shape × Option ℕ)
forms_of d = map kept_form d.cells.cells

-- What it is made for, and the room that is left.
abbrev pub layout_of : FileDesk → Layout
layout_of d = record {
  rows = map capacity_of d.cells.cells;
  numbers = vec_capacity d.numbers - most_bound;
  messages = d.tray.messages.capacity - 1;
  hand = d.hand.capacity;
  places = d.places;
}

abbrev pub room_of : List Held → FileDesk → Room
room_of p d = record {
  slots = spare p;
  places = d.places - length d.tray.sent.items;
  hand = d.hand.capacity - length d.hand.items;
}

-- Since a beginning only its references have moved. It has no more than it is made for; what it is made for and its
-- cells' forms are as they were.
pub record IsReady (b : Begun) (p : List Held) (d : FileDesk) : Type 0 where
  pub pool : InPool b p (stock_of d)
  pub layout : layout_of d ≡ b.layout
  pub fits : StockFits b.layout (stock_of d)
  pub numbers : most_bound ≤ vec_capacity d.numbers
  pub messages : 1 ≤ d.tray.messages.capacity
  pub forms : forms_of d ≡ b.forms
  pub sent : SentGrows b.refs b.list d.first d.places d.tray.sent
