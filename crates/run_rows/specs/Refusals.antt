-- What a member of the counter stack refuses.
use Rattle.std.specs.Prelude.{◌≡◌, ℕ, List, [], ◌∷◌, ◌++◌, codes, map, replicate}
use Rattle.script_mean.specs.declared.event.ScriptEvent.TheVariants as script
use Rattle.layer_rows.specs.Counter.{counter}
use Rattle.run_rows.specs.Written.{script_report}

-- The bytes of a number.
abbrev pub small : ℕ → List ℕ
small n = 0 ∷ 0 ∷ 0 ∷ n ∷ []

-- The front of a datagram: its form, the group, the stamp and the mask, then the sender and the destination.
abbrev pub front : ℕ → ℕ → ℕ → ℕ → ℕ → ℕ → List ℕ
front form group stamp mask sender dest = form ∷ small group ++ small stamp ++ small 0 ++ small mask ++ sender ∷ dest ∷
    []

-- What member 1 of three makes of a list of datagrams.
abbrev pub taken_raw : List (List ℕ) → List ℕ
taken_raw datagrams = script_report (counter ∷ []) 7 3 (map (script.Raw 1) datagrams)

-- Each cause in its order: a short datagram; another form, group, stamp and view; the member's own rank and one that
-- doesn't exist; another destination; a plan that doesn't exist; a cut chain in both forms; a body that is too long;
-- and a datagram that is taken.
abbrev pub Refuses : Type 0
Refuses =
    taken_raw (
    replicate 18 0
    ∷ front 228 1 7 7 0 255
    ∷ front 229 2 8 7 0 255
    ∷ front 229 1 8 7 0 255
    ∷ front 229 1 7 3 0 255
    ∷ front 229 1 7 7 1 255
    ∷ front 229 1 7 7 3 255
    ∷ front 229 1 7 7 0 2
    ∷ (front 230 1 7 7 0 255 ++ 250 ∷ [])
    ∷ (front 230 1 7 7 0 255 ++ 0 ∷ 0 ∷ 0 ∷ [])
    ∷ (front 230 1 7 3 0 255 ++ 0 ∷ 0 ∷ 0 ∷ [])
    ∷ front 229 1 7 7 0 255
    ∷ (front 229 1 7 7 0 255 ++ 0 ∷ replicate 8193 0)
    ∷ (front 230 1 7 7 0 255 ++ 0 ∷ small 0 ++ codes "hi") ∷ []
    )
    ≡ codes "refused 1 short\n" ++ codes "refused 1 form\n" ++ codes "refused 1 group\n" ++ codes "refused 1 stamp\n"
    ++ codes "refused 1 view\n" ++ codes "refused 1 sender\n" ++ codes "refused 1 sender\n" ++ codes "refused 1 dest\n"
    ++ codes "refused 1 plan\n" ++ codes "refused 1 chain\n" ++ codes "refused 1 view\n" ++ codes "refused 1 chain\n"
    ++ codes "refused 1 body\n" ++ codes "deliver 1 cast 0 6869\n" ++ codes "end 14\n"

-- The member's own packet, a packet that doesn't exist, and a body that is too long.
abbrev pub RefusesGiven : Type 0
RefusesGiven =
    script_report (counter ∷ []) 7 3 (
    script.Cast 0 (codes "hi") ∷ script.Give 1 0 ∷ script.Give 0 1 ∷ script.Give 2 1 ∷
    script.Cast 0 (replicate 8193 0) ∷ []
    )
    ≡ codes "packet 1 0 all cnt.num(0) 6869\n" ++ codes "refused 0 sender\n" ++ codes "absent 1 0\n" ++
    codes "absent 1 2\n"
    ++ codes "refused 0 big\n" ++ codes "end 5\n"
