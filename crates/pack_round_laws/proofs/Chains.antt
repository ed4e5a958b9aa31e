-- Lists of numbers and known headers are read back.
use Rattle.std.proofs.Common.{◌≡◌, ℕ, zero, suc, ◌+◌, ◌≤◌, false, List, [], ◌∷◌, ◌++◌, map, flat_map, length, replicate}
use Rattle.std.proofs.Common.{codes, refl, sym, ap, ◌∙◌, subst, arith, append_assoc}
use Rattle.std.specs.List.{AllByRecursion}
use Rattle.std.specs.Option.{option_map_or}
use Rattle.std.proofs.lemmas.List.{length-replicate}
use Rattle.layer_mean.specs.Headers.{header_of_tag}
use Rattle.layer_mean.specs.Tree.{HeaderTree, LayerTree}
use Rattle.trace_mean.specs.Trace.{Atom, Core, Link, Chained}
use Rattle.trace_mean.specs.Fuse.{fields_of}
use Rattle.trace_form_laws.specs.Names.{AtomNames, LinkNames, ChainedNames}
use Rattle.trace_form_laws.specs.Closed.{CoreIsMade, IsMade}
use Rattle.bypass_mean.specs.Text.{layer_of, atom_text, core_text, link_text, following, pushed_text}
use Rattle.pack_mean.specs.Reader.{Reader, ◌>>=◌, yields, option_reader, the_text, is_name_byte, each_of, more_of}
use Rattle.pack_mean.specs.Named.{Named, atom_named, core_named}
use Rattle.pack_mean.specs.Operation.{an_atom, a_core, tag_named, a_link, links_after, some_links, a_chain, a_chained}
use Rattle.pack_laws.specs.Written.{written_with}
use Rattle.pack_laws.proofs.Spelled.{reach_of}
use Rattle.pack_laws.proofs.Writing.{parted, after_commas}
use Rattle.pack_round_laws.specs.Told.{AreToldApart}
use Rattle.pack_round_laws.proofs.Fits.{largest_number, AtomFits, CoreFits, LinkFits, ChainFits, ChainedFits}
use Rattle.pack_round_laws.proofs.Front.{Finds, finds_value, finds_then, finds_text, finds_given, finds_known}
use Rattle.pack_round_laws.proofs.Front.{finds_same}
use Rattle.pack_round_laws.proofs.Front.{Stops}
use Rattle.pack_round_laws.proofs.Names.{IsSmall, atom_names, core_names, tag_names, finds_name}
use Rattle.pack_round_laws.proofs.Numbers.{Reads}

-- what ends a chain of known headers: a bracket, or nothing
abbrev pub Closes : List ℕ → Type 0
Closes [] = Unit {0}
Closes (byte ∷ bytes) = byte ≡ 41

pub closes_stops : (rest : List ℕ) → Closes rest → Stops is_name_byte rest
closes_stops [] closes = tt
closes_stops (byte ∷ bytes) closes = subst (λ b. is_name_byte b ≡ false) (sym closes) refl

pub commas_stop : (parts : List (List ℕ)) (rest : List ℕ) → Stops is_name_byte rest →
    Stops is_name_byte (after_commas parts ++ rest)
commas_stop [] rest stops = stops
commas_stop (part ∷ parts) rest stops = refl

-- texts before what follows
link_any : (n o p c rest : List ℕ) → n ++ (o ++ p ++ c) ++ rest ≡ n ++ (o ++ (p ++ (c ++ rest)))
link_any n o p c rest = simp append_assoc refl

two_parts : (a b rest : List ℕ) → a ++ b ++ rest ≡ a ++ (b ++ rest)
two_parts a b rest = append_assoc a b rest

module _ (stack : List LayerTree) (told : AreToldApart stack) (few : length stack ≤ largest_number)
    (before : List (List ℕ)) (s : Named)
    (small : IsSmall s) where
  abbrev AtomText : Atom → List ℕ
  AtomText a = atom_text (written_with before s) a

  abbrev CoreText : Core → List ℕ
  CoreText c = core_text (written_with before s) c

  abbrev Reading : {A : Type 0} → Reader A → List ℕ → A → Type 0
  Reading read text x = Reads stack told few before s small read text x

  abbrev Made : Atom → Type 0
  Made a = AtomNames (IsMade stack (reach_of s)) a

  pub atom_back : (a : Atom) → Made a → AtomFits a → Reading (an_atom s) (AtomText a) a
  atom_back a made fits = let x = atom_names before s small a made fits in
      record {
        said = λ rest stops. finds_name (atom_named s) (AtomText a) a x (λ name. option_reader (atom_named s name)) rest
            a rest
            stops
            (finds_known (atom_named s (x.first ∷ x.more)) rest a x.said);
      }

  pub core_back : (c : Core) → CoreIsMade (reach_of s) c → CoreFits s.rows c → Reading (a_core s) (CoreText c) c
  core_back c made fits = let x = core_names before s small c made fits in
      record {
        said = λ rest stops. finds_name (core_named s) (CoreText c) c x.names
            (λ name. option_reader (core_named s name)) rest c
            rest stops
            (finds_known (core_named s (x.names.first ∷ x.names.more)) rest c x.names.said);
      }

  -- things with commas between, as many as there are of others
  abbrev Each : {A : Type 0} → Reader A → (A → List ℕ) → A → Type 0
  Each read shown x = Reading read (shown x) x

  module _ {A B : Type 0} (read : Reader A) (shown : A → List ℕ) where
    more_back : (xs : List A) (bs : List B) (rest : List ℕ) → length xs ≡ length bs →
        AllByRecursion (Each read shown) xs → Stops is_name_byte rest →
        Finds (more_of read bs) (after_commas (map shown xs) ++ rest) xs rest
    more_back [] [] rest same each stops = finds_value [] rest
    more_back [] (b ∷ bs) rest same each stops = absurd (omega (arith, same))
    more_back (x ∷ xs) [] rest same each stops = absurd (omega (arith, same))
    more_back (x ∷ xs) (b ∷ bs) rest same each stops =
        finds_same (more_of read (b ∷ bs)) _ _ (x ∷ xs) rest
        (append_assoc (codes "," ++ shown x) (after_commas (map shown xs)) rest ∙
        append_assoc (codes ",") (shown x) (after_commas (map shown xs) ++ rest))
        (finds_text (codes ",") _ _ _ _
        (finds_then read _ _ x _ _ _ (each.0.said _ (commas_stop (map shown xs) rest stops))
        (finds_then (more_of read bs) _ _ xs rest _ _ (more_back xs bs rest (omega (arith, same)) each.1 stops)
        (finds_value (x ∷ xs) rest))))

    pub each_back : (xs : List A) (bs : List B) (rest : List ℕ) → length xs ≡ length bs →
        AllByRecursion (Each read shown) xs → Stops is_name_byte rest →
        Finds (each_of read bs) (parted (map shown xs) ++ rest) xs rest
    each_back [] [] rest same each stops = finds_value [] rest
    each_back [] (b ∷ bs) rest same each stops = absurd (omega (arith, same))
    each_back (x ∷ xs) [] rest same each stops = absurd (omega (arith, same))
    each_back (x ∷ xs) (b ∷ bs) rest same each stops =
        finds_same (each_of read (b ∷ bs)) _ _ (x ∷ xs) rest
        (append_assoc (shown x) (after_commas (map shown xs)) rest)
        (finds_then read _ _ x _ _ _ (each.0.said _ (commas_stop (map shown xs) rest stops))
        (finds_then (more_of read bs) _ _ xs rest _ _ (more_back xs bs rest (omega (arith, same)) each.1 stops)
        (finds_value (x ∷ xs) rest)))

  pub all_atoms : (xs : List Atom) → AllByRecursion Made xs → AllByRecursion AtomFits xs →
      AllByRecursion (λ a. Reading (an_atom s) (AtomText a) a) xs
  all_atoms [] made fit = tt
  all_atoms (x ∷ xs) made fit = (atom_back x made.0 fit.0, all_atoms xs made.1 fit.1)

  -- known headers
  abbrev LinkText : Link → List ℕ
  LinkText l = link_text stack AtomText l

  abbrev LinksText : List Link → List ℕ
  LinksText chain = flat_map (λ l. codes "/" ++ LinkText l) chain

  abbrev MadeLink : Link → Type 0
  MadeLink l = LinkNames (IsMade stack (reach_of s)) l

  abbrev FieldsOf : ℕ → ℕ → Reader Link
  FieldsOf place tag = the_text (codes "(") >>= λ u.
      each_of (an_atom s) (replicate (fields_of (layer_of stack place) tag) place) >>= λ fields.
      the_text (codes ")") >>= λ v. yields (record { place = place; tag = tag; fields = fields })

  link_back : (place tag : ℕ) (fields : List Atom) (rest : List ℕ) →
      LinkFits stack place (record { place = place; tag = tag; fields = fields }) →
      AllByRecursion Made fields →
      Finds (a_link stack s place) (LinkText (record { place = place; tag = tag; fields = fields }) ++ rest)
      (record { place = place; tag = tag; fields = fields }) rest
  link_back place tag fields rest fits made =
      let layer = layer_of stack place in
      let name = layer.name ++ codes "." ++ option_map_or (λ (h : HeaderTree). h.name) (header_of_tag layer tag) [] in
      let x = tag_names stack told few place tag fits.inside fits.declares in
      let count : length fields ≡ length (replicate (fields_of layer tag) place) = fits.count ∙
      sym (length-replicate (fields_of layer tag) place) in
      finds_same (a_link stack s place) _ _ _ rest
      (link_any name (codes "(") (parted (map AtomText fields)) (codes ")") rest)
      (finds_name (tag_named layer) name tag x (λ words. option_reader (tag_named layer words) >>= FieldsOf place) _ _
      rest refl
      (finds_given (tag_named layer (x.first ∷ x.more)) (FieldsOf place) _ tag _ rest x.said
      (finds_text (codes "(") _ _ _ _
      (finds_then (each_of (an_atom s) (replicate (fields_of layer tag) place)) _ _ fields _ _ _
      (each_back (an_atom s) AtomText fields (replicate (fields_of layer tag) place) _ count
      (all_atoms fields made fits.fields_fit) refl)
      (finds_text (codes ")") _ _ _ _ (finds_value _ rest))))))

  any_link : (place : ℕ) (l : Link) (rest : List ℕ) → LinkFits stack place l → MadeLink l →
      Finds (a_link stack s place) (LinkText l ++ rest) l rest
  any_link place l rest fits made =
      let same : record { place = place; tag = l.tag; fields = l.fields } ≡ l = λ i.
      record { place = sym fits.at i; tag = l.tag; fields = l.fields } in
      subst (λ x. Finds (a_link stack s place) (LinkText x ++ rest) x rest) same
      (link_back place l.tag l.fields rest (subst (LinkFits stack place) (sym same) fits) made)

  no_links : (place left : ℕ) (rest : List ℕ) → Closes rest → Finds (links_after stack s place left) rest [] rest
  no_links place zero rest closes = record { said = refl }
  no_links place (suc left) [] closes = record { said = refl }
  no_links place (suc left) (byte ∷ bytes) closes =
      subst (λ b. Finds (links_after stack s place (suc left)) (b ∷ bytes) [] (b ∷ bytes)) (sym closes) record
      { said = refl }

  links_back : (left place : ℕ) (ls : List Link) (rest : List ℕ) → length stack ≤ place + left →
      ChainFits stack place ls → AllByRecursion MadeLink ls →
      Closes rest → Finds (links_after stack s place left) (LinksText ls ++ rest) ls rest
  links_back left place [] rest most fits made closes = no_links place left rest closes
  links_back zero place (l ∷ ls) rest most fits made closes = let inside = fits.0.inside in
      absurd (omega (arith, inside, most))
  links_back (suc left) place (l ∷ ls) rest most fits made closes =
      let here : Finds (a_link stack s place >>= λ first. links_after stack s (place + 1) left >>= λ more.
      yields (first ∷ more))
      (LinkText l ++ (LinksText ls ++ rest)) (l ∷ ls) rest =
      finds_then (a_link stack s place) _ _ l _ _ _ (any_link place l (LinksText ls ++ rest) fits.0 made.0)
      (finds_then (links_after stack s (place + 1) left) _ _ ls rest _ _
      (links_back left (place + 1) ls rest (omega (arith, most)) fits.1 made.1 closes) (finds_value (l ∷ ls) rest)) in
      finds_same (links_after stack s place (suc left)) _ (codes "/" ++ (LinkText l ++ (LinksText ls ++ rest)))
      (l ∷ ls) rest
      (ap (λ t. codes "/" ++ t) (append_assoc (LinkText l) (LinksText ls) rest)) record { said = here.said }

  abbrev AfterText : List Link → List ℕ
  AfterText chain = following stack (written_with before s) chain

  pub chain_back : (place : ℕ) (ls : List Link) (rest : List ℕ) → ChainFits stack place ls →
      AllByRecursion MadeLink ls → Closes rest →
      Finds (a_chain stack s place) (AfterText ls ++ rest) ls rest
  chain_back place [] [] fits made closes = record { said = refl }
  chain_back place [] (byte ∷ bytes) fits made closes =
      subst (λ b. Finds (a_chain stack s place) (b ∷ bytes) [] (b ∷ bytes)) (sym closes) record { said = refl }
  chain_back place (l ∷ ls) rest fits made closes =
      let here : Finds (some_links stack s place) (LinkText l ++ (LinksText ls ++ rest)) (l ∷ ls) rest =
      finds_then (a_link stack s place) _ _ l _ _ _ (any_link place l (LinksText ls ++ rest) fits.0 made.0)
      (finds_then (links_after stack s (place + 1) (length stack)) _ _ ls rest _ _
      (links_back (length stack) (place + 1) ls rest (omega arith) fits.1 made.1 closes) (finds_value (l ∷ ls) rest)) in
      finds_same (a_chain stack s place) _ (codes " " ++ (LinkText l ++ (LinksText ls ++ rest))) (l ∷ ls) rest
      (ap (λ t. codes " " ++ t) (append_assoc (LinkText l) (LinksText ls) rest)) record { said = here.said }

  after_stops : (ls : List Link) (rest : List ℕ) → Closes rest → Stops is_name_byte (AfterText ls ++ rest)
  after_stops [] rest closes = closes_stops rest closes
  after_stops (l ∷ ls) rest closes = refl

  abbrev PushedText : Chained → List ℕ
  PushedText m = pushed_text stack (written_with before s) m

  abbrev MadeChained : Chained → Type 0
  MadeChained m = ChainedNames (IsMade stack (reach_of s)) m

  pub chained_back : (place : ℕ) (m : Chained) (rest : List ℕ) → ChainedFits stack s.rows place m → MadeChained m →
      Closes rest →
      Finds (a_chained stack s place) (PushedText m ++ rest) m rest
  chained_back place m rest fits made closes =
      finds_same (a_chained stack s place) _ _ m rest (two_parts (CoreText m.core) (AfterText m.chain) rest)
      (finds_then (a_core s) _ _ m.core _ _ _
      ((core_back m.core made.core_is fits.core_fits).said _ (after_stops m.chain rest closes))
      (finds_then (a_chain stack s place) _ _ m.chain
      rest _ _ (chain_back place m.chain rest fits.chain_fits made.chain_is closes) (finds_value m rest)))
