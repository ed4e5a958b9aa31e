-- A desk whose tray becomes another.
use Rattle.std.proofs.Common.{◌≡◌, ◌≤◌, List, ◌-◌, sym, subst, ◌∙◌}
use Rattle.slot_pool.specs.Held.{Held}
use Rattle.layer_desk.specs.Spent.{Begun}
use Rattle.pool_message.specs.Tray.{OnTray}
use Rattle.live_layer.specs.Steps.{InPool}
use Rattle.live_layer.specs.Fits.{StockFits, SentGrows}
use Rattle.live_layer.specs.Ready.{stock_of, layout_of, IsReady}
use Rattle.live_layer.specs.declared.desk.FileDesk.{FileDesk}

-- A desk that is in order stays so where its tray has as many places as before, and sends after what was sent.
pub tray_ready : (b : Begun) (p q : List Held) (d : FileDesk) (t new : OnTray) → IsReady b p d → new ≡ t →
    InPool b q (stock_of (record d { tray = t })) →
    StockFits b.layout (stock_of (record d { tray = t })) → t.messages.capacity ≡ d.tray.messages.capacity →
    SentGrows b.refs b.list d.first d.places t.sent →
    IsReady b q (record d { tray = new })
tray_ready b p q d t new is same pool fits capacity sent = subst (λ t. IsReady b q (record d { tray = t })) (sym same)
    record {
      pool = pool;
      layout = (λ j. record (layout_of d) { messages = capacity j - 1 }) ∙ is.layout;
      fits = fits;
      numbers = is.numbers;
      messages = subst (λ n. 1 ≤ n) (sym capacity) is.messages;
      forms = is.forms;
      sent = sent;
    }
