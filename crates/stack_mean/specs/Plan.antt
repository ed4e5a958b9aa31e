-- A plan: what the receivers of a packet know of it beforehand, so that its short form need not say it.
use Rattle.std.specs.Prelude.{ℕ, List, Option}
use Rattle.layer_words.specs.declared.events.Kind.{Kind}

-- A plan has the kind of its packets, the tags of their headers, the lowest layer's first, and for each field of these
-- headers, in the same order, its constant number, or None if it varies.
pub record Plan : Type 0 where
  pub kind : Kind
  pub tags : List ℕ
  pub fields : List (Option ℕ)
