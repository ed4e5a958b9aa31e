-- What lies in a pool stays as it is while other references move.
use Rattle.std.proofs.Common.{◌≡◌, ℕ, List, [], ◌∷◌, ◌++◌, Option, Some, None, length, refl, ap, arith}
use Rattle.slot_pool.specs.Held.{Held, range}
use Rattle.slot_pool.specs.References.{Moved, Covers}
use Rattle.slot_pool.proofs.Times.{hit_same}
use Rattle.slot_pool.proofs.References.{others-keep}
use Rattle.layer_words.specs.declared.events.Dir.{Dir}
use Rattle.pool_message.specs.Seen.{body_refs, body_seen, BodyLies, refs, content_seen, Lies, refs_if, seen_if, LiesIf}
use Rattle.pool_message.specs.Seen.{row_refs, row_seen, RowLies, event_refs, event_seen, EventLies}
use Rattle.pool_message.specs.Sent.{sent_refs, sent_seen, SentLie}
use Rattle.pool_message.specs.declared.event.PoolEvent.{PoolEvent}
use Rattle.pool_message.specs.declared.message.PoolMessage.{PoolMessage}
use Rattle.pool_message.specs.declared.part.Part.{Part}
use Rattle.pool_message.specs.declared.row.PoolRow.{PoolRow}
use Rattle.pool_message.proofs.Lists.{each_stays}

module _ (p q : List Held) (a b : List ℕ) (moved : Moved p q a b) where
  body_stays : (body : Option Part) → Covers p (a ++ body_refs body) → BodyLies p body →
      BodyLies q body × (body_seen q body ≡ body_seen p body)
  body_stays None covers lies = (tt, refl)
  body_stays (Some part) covers lies =
      let one = hit_same part.slot in
      let kept = others-keep p q a b (part.slot ∷ []) part.slot covers moved (omega arith) in
      let long = ap length kept.1 in let within = lies.within in
      (record { used = kept.0; within = omega arith }, ap (range part.from part.len) kept.1)

  pub message_stays : (m : PoolMessage) → Covers p (a ++ refs m) → Lies p m →
      Lies q m × (content_seen q m ≡ content_seen p m)
  message_stays m covers lies =
      let kept = body_stays m.body covers lies in
      (kept.0, ap (λ bytes. record { headers = m.headers; body = bytes }) kept.1)

  pub any_stays : (m : Option PoolMessage) → Covers p (a ++ refs_if m) → LiesIf p m →
      LiesIf q m × (seen_if q m ≡ seen_if p m)
  any_stays None covers lies = (tt, refl)
  any_stays (Some m) covers lies = let kept = message_stays m covers lies in (kept.0, ap (λ c. Some c) kept.1)

  pub row_stays : (r : PoolRow) → Covers p (a ++ row_refs r) → RowLies p r → RowLies q r × (row_seen q r ≡ row_seen p r)
  row_stays r covers lies = let kept = any_stays r.message covers lies in
      (kept.0, ap (λ m. record { numbers = r.numbers; message = m }) kept.1)

  pub event_stays : (e : PoolEvent) → Covers p (a ++ event_refs e) → EventLies p e →
      EventLies q e × (event_seen q e ≡ event_seen p e)
  event_stays e covers lies =
      let kept = any_stays e.message covers lies in
      (kept.0, ap (λ m. record { kind = e.kind; peer = e.peer; a = e.a; b = e.b; message = m }) kept.1)

  pub sent_stay : (es : List (Dir × PoolEvent)) → Covers p (a ++ sent_refs es) → SentLie p es →
      SentLie q es × (sent_seen q es ≡ sent_seen p es)
  sent_stay es covers lie =
      each_stays (λ (e : Dir × PoolEvent). event_refs e.1) (λ e. EventLies p e.1) (λ e. EventLies q e.1)
      (λ e. (e.0, event_seen p e.1)) (λ e. (e.0, event_seen q e.1)) p a
      (λ e beside lies. let kept = event_stays e.1 beside lies in (kept.0, ap (λ x. (e.0, x)) kept.1)) es covers lie
