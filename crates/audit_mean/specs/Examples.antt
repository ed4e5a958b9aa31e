-- A report that examples are about.
use Rattle.std.specs.Prelude.{ℕ, List, ◌++◌, codes}

-- One of three members falls silent, and the others go into a view without it.
abbrev pub view_change_report : List ℕ
view_change_report = codes "timer 0 100\ntimer 1 100\ntimer 2 100\npacket 1 0 1 suspect.ping() -\n"
    ++ codes "packet 2 0 2 suspect.ping() -\n"
    ++ codes "timer 0 500\npacket 3 1 0 suspect.ping() -\npacket 4 1 2 suspect.ping() -\ntimer 1 500\n"
    ++ codes "packet 5 0 1 suspect.ping() -\n"
    ++ codes "packet 6 0 2 suspect.ping() -\ntimer 0 700\n"
    ++ codes "packet 7 0 1 suspect.none()/elect.none()/sync.block(4) -\nblock 0 4\nblock 1 4\n"
    ++ codes "packet 8 1 0 suspect.none()/elect.none()/sync.flush() -\nannounce 0 3\n"
    ++ codes "packet 9 0 1 suspect.none()/elect.none()/sync.none()/intra.view(3) -\nview 0 1 3\nannounce 1 3\n"
    ++ codes "view 1 1 3\nrefused 1 view\npacket 10 2 0 suspect.ping() -\npacket 11 2 1 suspect.ping() -\n"
    ++ codes "timer 2 700\n"
    ++ codes "block 2 3\nannounce 2 4\nview 2 1 4\nend 13\n"
