-- Chains of headers, one before the other.
use Rattle.std.proofs.Common.{◌≡◌, ℕ, zero, suc, ◌+◌, ◌-◌, Bool, false, if◌then◌else◌, List, [], ◌∷◌, length, Option}
use Rattle.std.proofs.Common.{Some, None, Result, Err, refl, sym, ap, subst, ◌∙◌, arith}
use Rattle.std.specs.Prelude.{option_and_then}
use Rattle.layer_words.specs.declared.events.Dir.{Dir}
use Rattle.layer_words.specs.declared.events.Dir.TheVariants.{Up}
use Rattle.layer_mean.specs.Tree.{LayerTree}
use Rattle.trace_mean.specs.Trace as trace
use Rattle.pack_mean.specs.Reader.{◌>>=◌, yields}
use Rattle.pack_mean.specs.Named.{Named}
use Rattle.pack_mean.specs.Operation.{a_link, links_after, some_links, a_chain, chain_towards}
use Rattle.trace_core.specs.declared.links.Link.{Link}
use Rattle.trace_core.specs.Links.{IsChain, Linked, chain_in, chains}
use Rattle.trace_core.proofs.Chains.{chain_found, chain_there, chains_long, empty_chain}
use Rattle.trace_core.proofs.Earlier.{some_of}
use Rattle.pack_words.specs.Reading.{Passes, Stays, StartsOther}
use Rattle.pack_words.specs.declared.error.LineError.{LineError}
use Rattle.pack_words.specs.declared.error.LineError.TheVariants.{Form, Memory}
use Rattle.pack_read.specs.declared.header.Header.{Header}
use Rattle.pack_read.specs.Operations.{ChainRead, ReadsChain, TakesAs, header_at}
use Rattle.trace_core.proofs.Growing.{none_more, more_then, linked_more}
use Rattle.pack_read.proofs.Listing.{with_first, one_less}

-- The chain of no headers is there.
pub none_there : (ls : List Link) → IsChain (chains ls) 0
none_there ls = let x = some_of (chains ls) 0 (omega (arith, chains_long ls)) in chain_there (chains ls) 0 x.0 x.1

pub no_chain : (ls : List Link) (text : List ℕ) → ChainRead (Some ([], text)) ls ls text 0
no_chain ls text = record {
  is = ap (λ c. Some (c, text)) (sym (empty_chain ls));
  there = none_there ls;
  more =
      none_more ls;
}

-- What goes up has no headers.
pub towards_up : (stack : List LayerTree) (s : Named) (dir : Dir) (text : List ℕ) (ls : List Link) → dir ≡ Up →
    ChainRead (chain_towards stack s dir text) ls ls text 0
towards_up stack s dir text ls is = subst (λ d. ChainRead (chain_towards stack s d text) ls ls text 0) (sym is)
    (no_chain ls text)

pub no_places : (stack : List LayerTree) (s : Named) (place n : ℕ) (text : List ℕ) (ls : List Link) → n ≡ 0 →
    ChainRead (links_after stack s place n text) ls ls text 0
no_places stack s place n text ls none = subst (λ k. ChainRead (links_after stack s place k text) ls ls text 0)
    (sym none) (no_chain ls text)

-- One header before those that are read after it.
pub some_step : (stack : List LayerTree) (s : Named) (place : ℕ) (t0 t1 : List ℕ) (x : trace.Link) →
    a_link stack s place t0 ≡ Some (x, t1) →
    some_links stack s place t0 ≡ with_first x (links_after stack s (place + 1) (length stack) t1)
some_step stack s place t0 t1 x e =
    ap (option_and_then (λ (t : trace.Link × List ℕ).
    (links_after stack s (place + 1) (length stack) >>= λ more. yields (t.0 ∷ more)) t.1)) e

pub some_none : (stack : List LayerTree) (s : Named) (place : ℕ) (t0 : List ℕ) → a_link stack s place t0 ≡ None →
    some_links stack s place t0 ≡ None
some_none stack s place t0 e =
    ap (option_and_then (λ (t : trace.Link × List ℕ).
    (links_after stack s (place + 1) (length stack) >>= λ more. yields (t.0 ∷ more)) t.1)) e

after_step : (stack : List LayerTree) (s : Named) (place n : ℕ) (t1 t2 : List ℕ) (x : trace.Link) →
    a_link stack s place t1 ≡ Some (x, t2) →
    links_after stack s place (suc n) (47 ∷ t1) ≡ with_first x (links_after stack s (place + 1) n t2)
after_step stack s place n t1 t2 x e =
    ap (option_and_then (λ (t : trace.Link × List ℕ).
    (links_after stack s (place + 1) n >>= λ more. yields (t.0 ∷ more)) t.1)) e

after_none : (stack : List LayerTree) (s : Named) (place n : ℕ) (t1 : List ℕ) → a_link stack s place t1 ≡ None →
    links_after stack s place (suc n) (47 ∷ t1) ≡ None
after_none stack s place n t1 e =
    ap (option_and_then (λ (t : trace.Link × List ℕ).
    (links_after stack s (place + 1) n >>= λ more. yields (t.0 ∷ more)) t.1)) e

-- a link before a chain
put_first : (whole rest : Option (List trace.Link × List ℕ)) (x : trace.Link) (old middle new : List Link) (k j : ℕ)
    (after : List ℕ) →
    whole ≡ with_first x rest → ChainRead rest old middle after k →
    Linked middle new j (x ∷ chain_in (chains middle) k) →
    ChainRead whole old new after j
put_first whole rest x old middle new k j after is h l = record {
  is = is ∙ ap (with_first x) h.is ∙
      ap (λ c. Some (c, after)) (sym (chain_found (chains new) j (x ∷ chain_in (chains middle) k) l.stands));
  there = chain_there (chains new) j (x ∷ chain_in (chains middle) k) l.stands;
  more = more_then h.more (linked_more l);
}

put_some : (stack : List LayerTree) (s : Named) (place : ℕ) (t0 t1 after : List ℕ) (h : Header)
    (old middle new : List Link) (k j : ℕ) →
    a_link stack s place t0 ≡ Some (header_at place h, t1) →
    ChainRead (links_after stack s (place + 1) (length stack) t1) old middle after k →
    Linked middle new j (header_at place h ∷ chain_in (chains middle) k) →
    ChainRead (some_links stack s place t0) old new after j
put_some stack s place t0 t1 after h old middle new k j first rest l =
    put_first _ _ (header_at place h) old middle new k j after (some_step stack s place t0 t1 (header_at place h) first)
    rest l

put_after : (stack : List LayerTree) (s : Named) (place n : ℕ) (t0 t1 t2 after : List ℕ) (h : Header)
    (old middle new : List Link) (k j : ℕ) →
    (n ≡ 0 → ⊥) → t0 ≡ 47 ∷ t1 → a_link stack s place t1 ≡ Some (header_at place h, t2) →
    ChainRead (links_after stack s (place + 1) (n - 1) t2) old middle after k →
    Linked middle new j (header_at place h ∷ chain_in (chains middle) k) →
    ChainRead (links_after stack s place n t0) old new after j
put_after stack s place n t0 t1 t2 after h old middle new k j some slash first rest l =
    put_first _ _ (header_at place h) old middle new k j after
    (ap (λ m. links_after stack s place m t0) (one_less n some) ∙ ap (links_after stack s place (suc (n - 1))) slash
    ∙ after_step stack s place (n - 1) t1 t2 (header_at place h) first) rest l

pub put_some_at : (stack : List LayerTree) (s : Named) (place p : ℕ) (t0 t1 after : List ℕ) (h : Header)
    (old middle new : List Link)
    (k j : ℕ) → p ≡ place →
    a_link stack s p t0 ≡ Some (header_at p h, t1) →
    ChainRead (links_after stack s (p + 1) (length stack) t1) old middle after k →
    Linked middle new j (header_at p h ∷ chain_in (chains middle) k) →
    ChainRead (some_links stack s place t0) old new after j
put_some_at stack s place p t0 t1 after h old middle new k j e first rest l =
    subst (λ q. ChainRead (some_links stack s q t0) old new after j) e
    (put_some stack s p t0 t1 after h old middle new k j first rest l)

pub put_after_at : (stack : List LayerTree) (s : Named) (place p n : ℕ) (t0 t1 t2 after : List ℕ) (h : Header)
    (old middle new : List Link)
    (k j : ℕ) → p ≡ place →
    (n ≡ 0 → ⊥) → t0 ≡ 47 ∷ t1 → a_link stack s p t1 ≡ Some (header_at p h, t2) →
    ChainRead (links_after stack s (p + 1) (n - 1) t2) old middle after k →
    Linked middle new j (header_at p h ∷ chain_in (chains middle) k) →
    ChainRead (links_after stack s place n t0) old new after j
put_after_at stack s place p n t0 t1 t2 after h old middle new k j e some slash first rest l =
    subst (λ q. ChainRead (links_after stack s q n t0) old new after j) e
    (put_after stack s p n t0 t1 t2 after h old middle new k j some slash first rest l)

-- no header
no_header_at : (stack : List LayerTree) (s : Named) (place n : ℕ) (t0 t1 : List ℕ) → (n ≡ 0 → ⊥) → t0 ≡ 47 ∷ t1 →
    a_link stack s place t1 ≡ None →
    links_after stack s place n t0 ≡ None
no_header_at stack s place n t0 t1 some slash first =
    ap (λ m. links_after stack s place m t0) (one_less n some) ∙ ap (links_after stack s place (suc (n - 1))) slash
    ∙ after_none stack s place (n - 1) t1 first

no_header : (stack : List LayerTree) (s : Named) (place p n : ℕ) (t0 t1 : List ℕ) → p ≡ place → (n ≡ 0 → ⊥) →
    t0 ≡ 47 ∷ t1 →
    a_link stack s p t1 ≡ None →
    links_after stack s place n t0 ≡ None
no_header stack s place p n t0 t1 e some slash first = ap (λ q. links_after stack s q n t0) (sym e) ∙
    no_header_at stack s p n t0 t1 some slash first

no_rest_at : (stack : List LayerTree) (s : Named) (place n : ℕ) (t0 t1 t2 : List ℕ) (x : trace.Link) → (n ≡ 0 → ⊥) →
    t0 ≡ 47 ∷ t1 →
    a_link stack s place t1 ≡ Some (x, t2) → links_after stack s (place + 1) (n - 1) t2 ≡ None →
    links_after stack s place n t0 ≡ None
no_rest_at stack s place n t0 t1 t2 x some slash first rest =
    ap (λ m. links_after stack s place m t0) (one_less n some) ∙ ap (links_after stack s place (suc (n - 1))) slash
    ∙ after_step stack s place (n - 1) t1 t2 x first ∙ ap (with_first x) rest

no_rest : (stack : List LayerTree) (s : Named) (place p n : ℕ) (t0 t1 t2 : List ℕ) (x : trace.Link) → p ≡ place →
    (n ≡ 0 → ⊥) → t0 ≡ 47 ∷ t1 →
    a_link stack s p t1 ≡ Some (x, t2) → links_after stack s (p + 1) (n - 1) t2 ≡ None →
    links_after stack s place n t0 ≡ None
no_rest stack s place p n t0 t1 t2 x e some slash first rest =
    ap (λ q. links_after stack s q n t0) (sym e) ∙ no_rest_at stack s p n t0 t1 t2 x some slash first rest

pub some_no_rest : (stack : List LayerTree) (s : Named) (place : ℕ) (t0 t1 : List ℕ) (x : trace.Link) →
    a_link stack s place t0 ≡ Some (x, t1) → links_after stack s (place + 1) (length stack) t1 ≡ None →
    some_links stack s place t0 ≡ None
some_no_rest stack s place t0 t1 x first rest = some_step stack s place t0 t1 x first ∙ ap (with_first x) rest

-- no slash, and no space
ends_here : (stack : List LayerTree) (s : Named) (place n : ℕ) (text : List ℕ) → StartsOther 47 text →
    links_after stack s place n text ≡
    Some ([], text)
ends_here stack s place zero text other = refl
ends_here stack s place (suc n) [] other = refl
ends_here stack s place (suc n) (byte ∷ bytes) other = ap (λ b. if b then
    (a_link stack s place >>= λ first. (links_after stack s (place + 1) n >>= λ more. yields (first ∷ more))) bytes
    else Some
    ([], byte ∷ bytes)) other

no_slash : (stack : List LayerTree) (s : Named) (place n : ℕ) (t0 t1 : List ℕ) (ls : List Link) → Stays 47 t0 t1 →
    ChainRead (links_after stack s place n t0) ls ls t1 0
no_slash stack s place n t0 t1 ls h =
    subst (λ taken. ChainRead taken ls ls t1 0)
    (sym (ends_here stack s place n t0 h.other ∙ ap (λ t. Some ([], t)) (sym h.same))) (no_chain ls t1)

no_more_here : (stack : List LayerTree) (s : Named) (place : ℕ) (text : List ℕ) → StartsOther 32 text →
    a_chain stack s place text ≡ Some ([], text)
no_more_here stack s place [] other = refl
no_more_here stack s place (byte ∷ bytes) other =
    ap (λ b. if b then some_links stack s place bytes else Some ([], byte ∷ bytes)) other

pub not_passed : (stack : List LayerTree) (s : Named) (place n : ℕ) (t0 t1 : List ℕ) (ls : List Link) (r : Bool) →
    Passes 47 t0 r t1 → r ≡ false →
    ChainRead (links_after stack s place n t0) ls ls t1 0
not_passed stack s place n t0 t1 ls r h e = no_slash stack s place n t0 t1 ls (subst (λ b. Passes 47 t0 b t1) e h)

no_space : (stack : List LayerTree) (s : Named) (place : ℕ) (t0 t1 : List ℕ) (ls : List Link) → Stays 32 t0 t1 →
    ChainRead (a_chain stack s place t0) ls ls t1 0
no_space stack s place t0 t1 ls h =
    subst (λ taken. ChainRead taken ls ls t1 0)
    (sym (no_more_here stack s place t0 h.other ∙ ap (λ t. Some ([], t)) (sym h.same))) (no_chain ls t1)

pub after_space : (stack : List LayerTree) (s : Named) (place : ℕ) (t0 t1 : List ℕ) (old new : List Link)
    (after : List ℕ) (r : Result ℕ LineError) →
    t0 ≡ 32 ∷ t1 → ReadsChain (some_links stack s place t1) old new after r →
    ReadsChain (a_chain stack s place t0) old new after r
after_space stack s place t0 t1 old new after r space h =
    subst (λ t. ReadsChain (a_chain stack s place t) old new after r) (sym space) h

pub not_after_space : (stack : List LayerTree) (s : Named) (place : ℕ) (t0 t1 : List ℕ) (ls : List Link) (r : Bool) →
    Passes 32 t0 r t1 → r ≡ false →
    ChainRead (a_chain stack s place t0) ls ls t1 0
not_after_space stack s place t0 t1 ls r h e = no_space stack s place t0 t1 ls (subst (λ b. Passes 32 t0 b t1) e h)

-- what can't be read after a slash
pub header_fails : (stack : List LayerTree) (s : Named) (place p n : ℕ) (t0 t1 t2 end : List ℕ)
    (r : Result Header LineError) (e : LineError)
    (old new : List Link) (fault : Result ℕ LineError) → p ≡ place → (n ≡ 0 → ⊥) → t0 ≡ 47 ∷ t1 → TakesAs (header_at p)
    (a_link stack s p t1) r t2 → r ≡ Err e →
    fault ≡ Err e → ReadsChain (links_after stack s place n t0) old new end fault
header_fails stack s place p n t0 t1 t2 end r e old new fault is some slash h fails told =
    subst (ReadsChain (links_after stack s place n t0) old new end) (sym told)
    (go e (subst (λ z. TakesAs (header_at p) (a_link stack s p t1) z t2) fails h))
  where
    go : (e : LineError) → TakesAs (header_at p) (a_link stack s p t1) (Err e) t2 →
        ReadsChain (links_after stack s place n t0) old new end (Err e)
    go Form h = no_header stack s place p n t0 t1 is some slash h
    go Memory h = tt

pub rest_fails : (stack : List LayerTree) (s : Named) (place p n : ℕ) (t0 t1 t2 t3 end : List ℕ) (x : trace.Link)
    (r : Result ℕ LineError)
    (e : LineError)
    (old middle new : List Link) (fault : Result ℕ LineError) → p ≡ place → (n ≡ 0 → ⊥) → t0 ≡ 47 ∷ t1 →
    a_link stack s p t1 ≡ Some (x, t2) →
    ReadsChain (links_after stack s (p + 1) (n - 1) t2) old middle t3 r → r ≡ Err e → fault ≡ Err e → ReadsChain
    (links_after stack s place n t0) old new end fault
rest_fails stack s place p n t0 t1 t2 t3 end x r e old middle new fault is some slash first h fails told =
    subst (ReadsChain (links_after stack s place n t0) old new end) (sym told)
    (go e (subst (ReadsChain (links_after stack s (p + 1) (n - 1) t2) old middle t3) fails h))
  where
    go : (e : LineError) → ReadsChain (links_after stack s (p + 1) (n - 1) t2) old middle t3 (Err e) → ReadsChain
        (links_after stack s place n t0) old new end (Err e)
    go Form h = no_rest stack s place p n t0 t1 t2 x is some slash first h
    go Memory h = tt
