-- The layers that follow what has arrived at all members, and put casts into one order.
use Rattle.std.specs.Prelude.{ℕ, List, [], ◌∷◌, codes}
use Rattle.file_library.specs.Lines.{lines}

-- `collect`: acknowledges every sixteenth cast of each member
unfoldable pub collect : List ℕ
collect = lines
    (codes "layer collect {"
    ∷ codes "  state int got[n];"
    ∷ codes "  up Cast(o, m) {"
    ∷ codes "    set got[o] = (got[o] + 1);"
    ∷ codes "    up Cast(o, m);"
    ∷ codes "    if rare ((got[o] & 15) == 0) { up Ack(o, got[o]); }"
    ∷ codes "  }"
    ∷ codes "}"
    ∷ [])

-- `stable`: tells how many of a member's casts have arrived at all others
unfoldable pub stable : List ℕ
stable = lines
    (codes "layer stable {"
    ∷ codes "  state int has[n];"
    ∷ codes "  state int low;"
    ∷ codes "  header row(c) ends;"
    ∷ codes "  up Ack(o, c) { down Send(o, nothing) with row(c); }"
    ∷ codes "  up Send(o, m) with row(c) rare {"
    ∷ codes "    set has[o] = c;"
    ∷ codes "    set low = c;"
    ∷ codes "    each i below n max 32 {"
    ∷ codes "      if ((i != me) and (has[i] < low)) { set low = has[i]; }"
    ∷ codes "    }"
    ∷ codes "    if (low > 0) { down Stable(me, low); }"
    ∷ codes "  }"
    ∷ codes "}"
    ∷ [])

-- `local`: delivers a member's own casts to itself
unfoldable pub local : List ℕ
local = lines
    (codes "layer local {"
    ∷ codes "  down Cast(p, m) { down Cast(p, m); up Cast(me, m); }"
    ∷ codes "}"
    ∷ [])

-- `total`: casts in one order at all members, which the member of rank 0 gives
unfoldable pub total : List ℕ
total = lines
    (codes "layer total {"
    ∷ codes "  state int out;"
    ∷ codes "  state int next;"
    ∷ codes "  header num(origin, seq) passes;"
    ∷ codes "  header ask() passes;"
    ∷ codes "  down Cast(p, m) {"
    ∷ codes "    if (me == 0) { down Cast(p, m) with num(me, out); set out = (out + 1); }"
    ∷ codes "    else { down Send(0, m) with ask(); }"
    ∷ codes "  }"
    ∷ codes "  up Send(o, m) with ask() {"
    ∷ codes "    if (me == 0) { down Cast(me, m) with num(o, out); set out = (out + 1); }"
    ∷ codes "  }"
    ∷ codes "  up Cast(o, m) with num(origin, seq) common (seq == next) {"
    ∷ codes "    if (seq == next) { set next = (next + 1); up Cast(origin, m); }"
    ∷ codes "  }"
    ∷ codes "}"
    ∷ [])
