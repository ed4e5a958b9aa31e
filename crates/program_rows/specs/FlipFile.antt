-- A file whose layer has two common cases: casts of odd numbers get another header than those of even ones.
use Rattle.std.specs.Prelude.{ℕ, List, ◌++◌, codes}
use Rattle.layer_ast.specs.Reader.{file_of}
use Rattle.layer_ast.specs.Tree.{FileTree}

-- Its text.
abbrev pub text : List ℕ
text =
    codes "layer flip {\n"
    ++ codes "  state int k;\n"
    ++ codes "  header a(x) passes;\n"
    ++ codes "  header b(x) passes;\n"
    ++ codes "  down Cast(p, m) {\n"
    ++ codes "    set k = (k + 1);\n"
    ++ codes "    if two ((k & 1) == 1) { down Cast(p, m) with a(k); }\n"
    ++ codes "    else { down Cast(p, m) with b(k); }\n"
    ++ codes "  }\n"
    ++ codes "}\n"
    ++ codes "stack { flip; }\n"

-- The file.
abbrev pub file : FileTree
file = file_of text
