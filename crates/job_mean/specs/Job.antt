-- The job that the words of the command line name.
use Rattle.std.specs.Prelude.{ℕ, ◌==◌, ◌&&◌, nat_lt, Bool, true, List, [], ◌∷◌, map, filter, Option, Some, None}
use Rattle.std.specs.Prelude.{is_some, codes, if◌then◌else◌}
use Rattle.std.specs.List.{list_all, list_any, slice_split}
use Rattle.std.specs.Str.{bytes_eq}
use Rattle.clap.specs.Walk.{Text}
use Rattle.audit_mean.specs.declared.law.Law.{Law}
use Rattle.audit_mean.specs.declared.law.Law.TheVariants.{Sender, Total, Same}
use Rattle.script_mean.specs.Words.{◌>>=◌, number_within}
use Rattle.job_mean.specs.Given.{Given, given_of, telling_of}
use Rattle.msg_core.specs.View.{most_members, last_member}
use Rattle.run_mean.specs.Mode.{Mode, layered, bypass}

-- what the program is to do: judge a file; print its bypasses; write the traces of these as a file; replay a script,
-- with the events, the packets' bytes or the number of visits if wanted, by the bypasses of the stack or by those whose
-- traces a file holds; tell why the steps of a script weren't common; replay a script that is made from a seed, with
-- datagrams in it if wanted; run members over a network of which n receives may fail; judge a law of the group on a
-- report
pub data Job : Type 0 where
  check : (file : Text) → Job
  synth : (file : Text) → Job
  pack : (file : Text) → Job
  replay : (file script : Text) (mode : Mode) (events wire count : Bool) → Job
  replay_with : (file script traces : Text) (events wire count : Bool) → Job
  explain : (file script : Text) → Job
  load : (file : Text) (seed events members : ℕ) (raw : Bool) (mode : Mode) → Job
  node : (file plan : Text) (turns : ℕ) (members : List ℕ) (patience : ℕ) (mode : Mode) → Job
  audit : (file : Text) (law : Law) → Job

-- each word that not every job has, and whether it was given
abbrev pub extras : Given → List (Text × Bool)
extras given =
    (codes "second", is_some given.second) ∷ (codes "run", is_some given.run) ∷ (codes "seed", is_some given.seed) ∷
    (codes "events", is_some given.events) ∷ (codes "members", is_some given.members) ∷
    (codes "turns", is_some given.turns) ∷ (codes "me", is_some given.me) ∷ (codes "patience", is_some given.patience) ∷
    (codes "law", is_some given.law) ∷ (codes "with", is_some given.traces) ∷ (codes "wire", given.wire) ∷
    (codes "count", given.count) ∷ (codes "raw", given.raw) ∷ []

-- a job refuses each word that it doesn't list
abbrev pub with_only : List Text → Given → Option (Unit {0})
with_only listed given =
    if list_all (λ name. list_any (bytes_eq name) listed)
    (map (λ extra. extra.0) (filter (λ extra. extra.1) (extras given)))
    then Some tt else None

-- the mode of `--run`; without it, the bypasses
abbrev pub mode_of : Option Text → Option Mode
mode_of None = Some bypass
mode_of (Some name) =
    if bytes_eq name (codes "layered") then Some layered
    else if bytes_eq name (codes "bypass") then Some bypass
    else None

-- the law of this name, if there is one
abbrev pub law_named : Text → Option Law
law_named name =
    if bytes_eq name (codes "sender") then Some Sender
    else if bytes_eq name (codes "total") then Some Total
    else if bytes_eq name (codes "same") then Some Same
    else None

-- the law of `--law`, which has to be given
abbrev pub law_of : Option Text → Option Law
law_of given = do
  name ← given
  law_named name

-- the most events of a generated script
abbrev pub most_generated : ℕ
most_generated = 99999

-- the most turns of a node
abbrev pub most_node_turns : ℕ
most_node_turns = 1000000

-- the most failed receives that a node may be told to bear
abbrev pub most_patience : ℕ
most_patience = 1000

-- a number that has to be given, within bounds
abbrev pub a_number : ℕ → ℕ → Option Text → Option ℕ
a_number low high given = do
  text ← given
  number_within low high text

-- a number within bounds that is 0 where it isn't given
abbrev pub a_number_or_zero : ℕ → Option Text → Option ℕ
a_number_or_zero high None = Some 0
a_number_or_zero high (Some text) = number_within 0 high text

-- each number is below all those after it
abbrev pub is_ascending : List ℕ → Bool
is_ascending [] = true
is_ascending (first ∷ more) = list_all (nat_lt first) more && is_ascending more

-- the members that words name
abbrev pub members_in : List Text → Option (List ℕ)
members_in [] = Some []
members_in (word ∷ words) = do
  member ← number_within 0 last_member word
  members ← members_in words
  Some (member ∷ members)

-- members that have to be given, one or more in ascending order, with commas (44) between
abbrev pub some_members : Option Text → Option (List ℕ)
some_members given = do
  text ← given
  members ← members_in (slice_split (λ byte. byte == 44) text)
  if is_ascending members then Some members else None

-- `check FILE`
abbrev pub check_job : Given → Option Job
check_job given = do
  _ ← with_only [] given
  Some (check given.file)

-- `synth FILE`
abbrev pub synth_job : Given → Option Job
synth_job given = do
  _ ← with_only [] given
  Some (synth given.file)

-- `pack FILE`
abbrev pub pack_job : Given → Option Job
pack_job given = do
  _ ← with_only [] given
  Some (pack given.file)

-- a replay in a mode: only one by bypasses may be given the traces of a file
abbrev pub replay_by : Given → (script : Text) → Mode → Option Text → Option Job
replay_by given script mode None = Some (replay given.file script mode given.telling given.wire given.count)
replay_by given script bypass (Some traces) =
    Some (replay_with given.file script traces given.telling given.wire given.count)
replay_by given script layered (Some traces) = None

-- `replay FILE SCRIPT`, may have `--run MODE`, `--with TRACES`, `--events`, `--wire` and `--count`
abbrev pub replay_job : Given → Option Job
replay_job given = do
  _ ← with_only (codes "second" ∷ codes "run" ∷ codes "with" ∷ codes "wire" ∷ codes "count" ∷ []) given
  script ← given.second
  mode ← mode_of given.run
  replay_by given script mode given.traces

-- `explain FILE SCRIPT`
abbrev pub explain_job : Given → Option Job
explain_job given = do
  _ ← with_only (codes "second" ∷ []) given
  script ← given.second
  Some (explain given.file script)

-- `load FILE --seed S --events E --members N`, may have `--run MODE` and `--raw`
abbrev pub load_job : Given → Option Job
load_job given = do
  _ ← with_only (codes "seed" ∷ codes "events" ∷ codes "members" ∷ codes "run" ∷ codes "raw" ∷ []) given
  seed ← a_number 0 4294967295 given.seed
  events ← a_number 0 most_generated given.events
  members ← a_number 1 most_members given.members
  mode ← mode_of given.run
  Some (load given.file seed events members given.raw mode)

-- `node FILE PLAN --turns T --me IDS`, may have `--run MODE` and `--patience P`
abbrev pub node_job : Given → Option Job
node_job given = do
  _ ← with_only (codes "second" ∷ codes "turns" ∷ codes "me" ∷ codes "run" ∷ codes "patience" ∷ []) given
  plan ← given.second
  turns ← a_number 0 most_node_turns given.turns
  members ← some_members given.me
  mode ← mode_of given.run
  patience ← a_number_or_zero most_patience given.patience
  Some (node given.file plan turns members patience mode)

-- `audit FILE --law L`
abbrev pub audit_job : Given → Option Job
audit_job given = do
  _ ← with_only (codes "law" ∷ []) given
  law ← law_of given.law
  Some (audit given.file law)

-- the job of what was given, if it is one
abbrev pub job : Given → Option Job
job given =
    if bytes_eq given.job (codes "check") then check_job given
    else if bytes_eq given.job (codes "synth") then synth_job given
    else if bytes_eq given.job (codes "pack") then pack_job given
    else if bytes_eq given.job (codes "replay") then replay_job given
    else if bytes_eq given.job (codes "explain") then explain_job given
    else if bytes_eq given.job (codes "load") then load_job given
    else if bytes_eq given.job (codes "node") then node_job given
    else if bytes_eq given.job (codes "audit") then audit_job given
    else None

-- a replay, which alone tells its events
abbrev pub telling_job : Given → Option Job
telling_job given = if bytes_eq given.job (codes "replay") then replay_job given else None

-- the first of two that is a job
abbrev pub first_job : Option Job → Option Job → Option Job
first_job (Some job) other = Some job
first_job None other = other

-- the job that the words after the program's name are, if they are one: by the command of all jobs, or else by that of
-- a replay that tells its events
abbrev pub job_of_words : List Text → Option Job
job_of_words words = first_job (given_of words >>= job) (telling_of words >>= telling_job)
