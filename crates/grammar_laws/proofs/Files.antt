-- Layers and places whose tokens go together are the same; so are files.
use Rattle.std.proofs.Common.{◌≡◌, List, [], ◌∷◌, refl}
use Rattle.layer_words.specs.declared.signs.Sign.TheVariants as sign
use Rattle.layer_ast.specs.Print as print
use Rattle.layer_ast.specs.Printed.{Printed, plain}
use Rattle.layer_ast.specs.Tree.{LayerTree, GivenTree, PlaceTree, FileTree}
use Rattle.grammar_laws.proofs.Declarations.{declarations_once, handlers_once}
use Rattle.grammar_laws.proofs.Together.{Together, name_once}

pub layer_once : (a b : LayerTree) (k l : List Printed) → Together (print.layer a k) (print.layer b l) →
    (a ≡ b) × Together k l
layer_once a b k l (_, at, (e, s, (_, _, h))) =
    let name = name_once a.name b.name e s in
    let d = declarations_once a.declarations b.declarations a.handlers b.handlers k l h in
    let t = handlers_once a.handlers b.handlers k l d.1 in
    (λ x. record { at = at x; name = name x; declarations = d.0 x; handlers = t.0 x }, t.1)

layers_once : (a b : List LayerTree) (k l : List Printed) →
    Together (print.layers a (plain sign.Stack ∷ k)) (print.layers b (plain sign.Stack ∷ l)) →
    (a ≡ b) × Together k l
layers_once [] [] k l (_, _, h) = (refl, h)
layers_once (x ∷ a) (y ∷ b) k l h =
    let q = layer_once x y (print.layers a (plain sign.Stack ∷ k)) (print.layers b (plain sign.Stack ∷ l)) h in
    let r = layers_once a b k l q.1 in
    (λ x. q.0 x ∷ r.0 x, r.1)
layers_once _ _ k l h = absurd (cc h.0)

given_once : (a b : GivenTree) (k l : List Printed) →
    Together (print.given a k) (print.given b l) → (a ≡ b) × Together k l
given_once a b k l (e, s, (_, _, (number, _, h))) =
    let name = name_once a.name b.name e s in
    let value : a.value ≡ b.value = cc number in
    (λ x. record { name = name x; value = value x }, h)

more_given_once : (a b : List GivenTree) (k l : List Printed) →
    Together (print.more_given a (plain sign.RightParen ∷ k)) (print.more_given b (plain sign.RightParen ∷ l)) →
    (a ≡ b) × Together k l
more_given_once [] [] k l (_, _, h) = (refl, h)
more_given_once (g ∷ a) (f ∷ b) k l (_, _, h) =
    let q = given_once g f (print.more_given a (plain sign.RightParen ∷ k))
    (print.more_given b (plain sign.RightParen ∷ l)) h in
    let r = more_given_once a b k l q.1 in
    (λ x. q.0 x ∷ r.0 x, r.1)
more_given_once _ _ k l h = absurd (cc h.0)

all_given_once : (a b : List GivenTree) (k l : List Printed) →
    Together (print.all_given a (plain sign.Semicolon ∷ k)) (print.all_given b (plain sign.Semicolon ∷ l)) →
    (a ≡ b) × Together k l
all_given_once [] [] k l (_, _, h) = (refl, h)
all_given_once (g ∷ a) (f ∷ b) k l (_, _, h) =
    let q = given_once g f (print.more_given a (plain sign.RightParen ∷ plain sign.Semicolon ∷ k))
    (print.more_given b (plain sign.RightParen ∷ plain sign.Semicolon ∷ l)) h in
    let r = more_given_once a b (plain sign.Semicolon ∷ k) (plain sign.Semicolon ∷ l) q.1 in
    (λ x. q.0 x ∷ r.0 x, r.1.2)
all_given_once _ _ k l h = absurd (cc h.0)

places_once : (a b : List PlaceTree) (k l : List Printed) →
    Together (print.places a (plain sign.RightBrace ∷ k)) (print.places b (plain sign.RightBrace ∷ l)) → a ≡ b
places_once [] [] k l h = refl
places_once (p ∷ a) (q ∷ b) k l (e, s, h) =
    let name = name_once p.name q.name e s in
    let given = all_given_once p.given q.given (print.places a (plain sign.RightBrace ∷ k))
    (print.places b (plain sign.RightBrace ∷ l)) h in
    let rest = places_once a b k l given.1 in
    λ x. record { name = name x; given = given.0 x } ∷ rest x
places_once _ _ k l h = absurd (cc h.0)

pub file_once : (a b : FileTree) → a.library ≡ b.library → Together (print.file a) (print.file b) → a ≡ b
file_once a b library h =
    let r = layers_once a.layers b.layers (plain sign.LeftBrace ∷ print.places a.places (plain sign.RightBrace ∷ []))
    (plain sign.LeftBrace ∷ print.places b.places (plain sign.RightBrace ∷ [])) h in
    let p = places_once a.places b.places [] [] r.1.2 in
    λ x. record { layers = r.0 x; places = p x; library = library x }
