-- A file whose layer has two common cases, the first of which goes round a loop and so has no shape: casts of even
-- numbers alone are common.
use Rattle.std.specs.Prelude.{ℕ, List, ◌++◌, codes}
use Rattle.layer_ast.specs.Reader.{file_of}
use Rattle.layer_ast.specs.Tree.{FileTree}

-- Its text.
abbrev pub text : List ℕ
text =
    codes "layer late {\n"
    ++ codes "  state int k;\n"
    ++ codes "  header a() passes;\n"
    ++ codes "  header b() passes;\n"
    ++ codes "  down Cast(p, m) {\n"
    ++ codes "    set k = (k + 1);\n"
    ++ codes "    if two ((k & 1) == 1) { each i below 1 max 1 { down Cast(p, m) with a(); } }\n"
    ++ codes "    else { down Cast(p, m) with b(); }\n"
    ++ codes "  }\n"
    ++ codes "}\n"
    ++ codes "stack { late; }\n"

-- The file.
abbrev pub file : FileTree
file = file_of text
