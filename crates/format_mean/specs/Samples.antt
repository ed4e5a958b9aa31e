-- Small texts, laid out.
use Rattle.std.specs.Prelude.{◌≡◌, [], ◌∷◌, codes}
use Rattle.format_mean.specs.Layout.{formatted, formatted_lines}

-- three blank lines are one, blanks at ends of lines go, and a comment stands at its column
abbrev pub ParesLines : Type 0
ParesLines =
    formatted_lines (codes "\n  # first \n\n\n\nstack{a  ; # second\r\n b;}") ≡
    codes "# first\n\n"
    ∷ codes "stack { a;                           # second\n"
    ∷ codes "  b; }\n"
    ∷ []

-- declarations, handlers and the end of a layer begin lines; what is in a handler stays in its line
abbrev pub PartsStatements : Type 0
PartsStatements =
    formatted_lines (codes "layer a{state int k ; up Cast( o,m ){push q[o](m)else{} set k=( len(q [o])+1 );}}stack{a;}")
    ≡
    codes "layer a {\n"
    ∷ codes "  state int k;\n"
    ∷ codes "  up Cast(o, m) { push q[o] (m) else { } set k = (len(q[o]) + 1); }\n"
    ∷ codes "}\n"
    ∷ codes "stack { a; }\n"
    ∷ []

-- a statement in two lines is indented further in the second
abbrev pub LaysStack : Type 0
LaysStack = formatted (codes "stack\n{\na(room=\n2); b;\n}") ≡ codes "stack\n{\n  a(room =\n      2); b;\n}\n"
