-- The layers that agree on who the members are.
use Rattle.std.specs.Prelude.{ℕ, List, [], ◌∷◌, codes}
use Rattle.file_library.specs.Lines.{lines}

-- `suspect`: suspects members that are silent, and those that leave
unfoldable pub suspect : List ℕ
suspect = lines
    (codes "layer suspect {"
    ∷ codes "  param every = 100;"
    ∷ codes "  param after = 500;"
    ∷ codes "  state int began;"
    ∷ codes "  state int now;"
    ∷ codes "  state int told;"
    ∷ codes "  state int bad;"
    ∷ codes "  state int was;"
    ∷ codes "  state int heard[n];"
    ∷ codes "  header ping() ends;"
    ∷ codes "  header bye() ends;"
    ∷ codes "  up Timer(t) {"
    ∷ codes "    set now = t;"
    ∷ codes "    if (began == 0) {"
    ∷ codes "      set began = 1;"
    ∷ codes "      set told = t;"
    ∷ codes "      each i below n max 32 { set heard[i] = t; }"
    ∷ codes "    }"
    ∷ codes "    if (t >= (told + every)) {"
    ∷ codes "      set told = t;"
    ∷ codes "      each i below n max 32 { if (i != me) { down Send(i, nothing) with ping(); } }"
    ∷ codes "    }"
    ∷ codes "    set was = bad;"
    ∷ codes "    each i below n max 32 {"
    ∷ codes "      if ((i != me) and (t > (heard[i] + after))) { set bad = (bad | bit(i)); }"
    ∷ codes "    }"
    ∷ codes "    if (bad != was) { up Suspect(bad); }"
    ∷ codes "    down Timer((t + every));"
    ∷ codes "    up Timer(t);"
    ∷ codes "  }"
    ∷ codes "  up Send(o, m) with ping() { set heard[o] = now; }"
    ∷ codes "  up Send(o, m) with bye() rare {"
    ∷ codes "    if ((bad & bit(o)) == 0) { set bad = (bad | bit(o)); up Suspect(bad); }"
    ∷ codes "  }"
    ∷ codes "  down Leave(x) {"
    ∷ codes "    each i below n max 32 { if (i != me) { down Send(i, nothing) with bye(); } }"
    ∷ codes "    down Leave(x);"
    ∷ codes "  }"
    ∷ codes "}"
    ∷ [])

-- `elect`: elects the lowest member that is not suspected
unfoldable pub elect : List ℕ
elect = lines
    (codes "layer elect {"
    ∷ codes "  up Suspect(s) {"
    ∷ codes "    up Suspect(s);"
    ∷ codes "    if (lowest(((bit(n) - 1) ^ s)) == me) { up Elect(s); }"
    ∷ codes "  }"
    ∷ codes "}"
    ∷ [])

-- `sync`: stops the casts and gathers the members' consent before a new view
unfoldable pub sync : List ℕ
sync = lines
    (codes "layer sync {"
    ∷ codes "  state int coord;"
    ∷ codes "  state int boss;"
    ∷ codes "  state int bad;"
    ∷ codes "  state int ready;"
    ∷ codes "  state int blocked;"
    ∷ codes "  header block(s) ends;"
    ∷ codes "  header flush() ends;"
    ∷ codes "  up Elect(s) {"
    ∷ codes "    set coord = 1;"
    ∷ codes "    set boss = me;"
    ∷ codes "    set bad = s;"
    ∷ codes "    each i below n max 32 {"
    ∷ codes "      if ((i != me) and ((bit(i) & s) == 0)) { down Send(i, nothing) with block(s); }"
    ∷ codes "    }"
    ∷ codes "    up Block(s);"
    ∷ codes "  }"
    ∷ codes "  up Send(o, m) with block(s) rare { set boss = o; set bad = s; up Block(s); }"
    ∷ codes "  down BlockOk(s) {"
    ∷ codes "    set blocked = 1;"
    ∷ codes "    if (boss == me) { set ready = (ready | bit(me)); }"
    ∷ codes "    else { down Send(boss, nothing) with flush(); }"
    ∷ codes "    if ((coord == 1) and ((ready | bad) == (bit(n) - 1))) { up Flushed(bad); }"
    ∷ codes "  }"
    ∷ codes "  up Send(o, m) with flush() rare {"
    ∷ codes "    set ready = (ready | bit(o));"
    ∷ codes "    if ((coord == 1) and ((ready | bad) == (bit(n) - 1))) { up Flushed(bad); }"
    ∷ codes "  }"
    ∷ codes "  down Cast(p, m) { if (blocked == 0) { down Cast(p, m); } }"
    ∷ codes "}"
    ∷ [])

-- `intra`: tells the members the new view
unfoldable pub intra : List ℕ
intra = lines
    (codes "layer intra {"
    ∷ codes "  header view(mask) ends;"
    ∷ codes "  up Flushed(s) {"
    ∷ codes "    each i below n max 32 {"
    ∷ codes "      if ((i != me) and ((bit(i) & s) == 0)) {"
    ∷ codes "        down Send(i, nothing) with view(((bit(n) - 1) ^ s));"
    ∷ codes "      }"
    ∷ codes "    }"
    ∷ codes "    up View(((bit(n) - 1) ^ s));"
    ∷ codes "  }"
    ∷ codes "  up Send(o, m) with view(v) rare { up View(v); }"
    ∷ codes "}"
    ∷ [])

-- `top`: answers a request to block at once
unfoldable pub top : List ℕ
top = lines
    (codes "layer top {"
    ∷ codes "  up Block(s) { up Block(s); down BlockOk(s); }"
    ∷ codes "}"
    ∷ [])
