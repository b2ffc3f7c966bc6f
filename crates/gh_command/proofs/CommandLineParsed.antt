-- The parser's line is the command line.
use Rattle.std.proofs.Common.{◌≡◌, ◌∙◌, ◌++◌, Bool, true, false, refl, sym, ap, subst, true≢false, List, [], ◌∷◌, codes, is_some, Option, Some, None, ◌⊎◌, if◌then◌else◌, append-nil, append_assoc, arith}
use Rattle.gh_command.proofs.Vocabulary.{App, built, bundle_met, bytes_eq, bytes_eq-Decides, check_fault, command_line, defaults_fault, entered, entered_fault, fault_of, finished, flags_fault, fold, found_line, found_plain, found_replay, found_script, Gen, goheap_app, is_simple, is_simple_and_free, IsAmong, Kinds, level_fault, Line, long_of, Names, names_of, no_error_comes, no_options, nothing_held, or_else, parsed_line, replay_options, Row, rows_after, Rule, Run, script_options, settle_fault, settled, Shape, short_of, Soak, subcommand_of, Text, turn_fault, Verify, Walk, walk_fault, walk_from, walked}
use Rattle.clap.specs.declared.error.kind.ErrorKind.{ErrorKind}
use Rattle.clap.specs.declared.error.kind.ErrorKind.TheVariants.{OutOfMemory}
use Rattle.clap.proofs.FaultLemmas.{stopped_fault}
use Rattle.clap.proofs.OnLiterals.{clap_on_literals}
use Rattle.gh_command.proofs.CommandLineChoices.{parsed_choices}
use Rattle.gh_command.proofs.CommandLineEnd.{Sub, leaf}
use Rattle.gh_command.proofs.CommandLineRules.{rules, same_text}
use Rattle.gh_command.proofs.CommandLineSubs.{plain_read, plain_sub, replay_read, replay_sub, script_read, script_sub}
use Rattle.gh_command.proofs.CommandLineWalk.{dashes, parsed}

-- ---- the words of the command itself

abbrev top : Shape
top = (built goheap_app).top

abbrev names : Names
names = names_of (built goheap_app)

-- the name of a subcommand
abbrev run : Text
run = codes "run"

abbrev replay : Text
replay = codes "replay"

abbrev gen : Text
gen = codes "gen"

abbrev soak : Text
soak = codes "soak"

abbrev verify : Text
verify = codes "verify"

-- the line where the words come to this fault and the walk ends so
abbrev line_by : Kinds → Walk → Option Line
line_by fault end =
    if no_error_comes (or_else fault (or_else (entered_fault (built goheap_app) end.stopped) (or_else (settle_fault top.rules false end.held)
    (or_else (defaults_fault (settled top.rules end.held).rows top.rules) (check_fault top (finished top.rules end.held) (is_some (entered (built goheap_app) end.stopped)))))))
    then found_line (entered (built goheap_app) end.stopped) else None

by_walk : (program : Text) (words : List Text) → parsed_line (program ∷ words)
    ≡ line_by (walk_fault top names (walk_from nothing_held) words) (fold (walked top.rules names) (walk_from nothing_held) words)
by_walk program words = refl

stopped_is : (c : List Rule) (subs : Names) (w : Walk) (name : Text) (past words : List Text)
    → fold (walked c subs) (record w { stopped = Some (name, past) }) words ≡ record w { stopped = Some (name, past ++ words) }
unfolding walked
stopped_is c subs w name past [] = ap (λ (ws : List Text). record w { stopped = Some (name, ws) }) (sym (append-nil past))
stopped_is c subs w name past (word ∷ rest) =
    stopped_is c subs w name (past ++ word ∷ []) rest ∙ ap (λ (ws : List Text). record w { stopped = Some (name, ws) }) (append_assoc past (word ∷ []) rest)

abbrev stopped_at : Text → List Text → Walk
stopped_at name words = record (walk_from nothing_held) { stopped = Some (name, words) }

-- a subcommand of the command
data Entered : Sub → Type 0 where
  runs : Entered (plain_sub run Run)
  replays : Entered replay_sub
  generates : Entered (script_sub gen Gen)
  soaks : Entered (script_sub soak Soak)
  verifies : Entered (plain_sub verify Verify)

entered_fault_is : (s : Sub) → Entered s → (words : List Text) → walk_fault top names (walk_from nothing_held) (s.name ∷ words) ≡ []
unfolding walk_fault walked
entered_fault_is _ runs words = stopped_fault top names (walk_from nothing_held) (run, []) words
entered_fault_is _ replays words = stopped_fault top names (walk_from nothing_held) (replay, []) words
entered_fault_is _ generates words = stopped_fault top names (walk_from nothing_held) (gen, []) words
entered_fault_is _ soaks words = stopped_fault top names (walk_from nothing_held) (soak, []) words
entered_fault_is _ verifies words = stopped_fault top names (walk_from nothing_held) (verify, []) words

entered_walk : (s : Sub) → Entered s → (words : List Text) → fold (walked top.rules names) (walk_from nothing_held) (s.name ∷ words) ≡ stopped_at s.name words
unfolding walked
entered_walk _ runs words = stopped_is top.rules names (walk_from nothing_held) run [] words
entered_walk _ replays words = stopped_is top.rules names (walk_from nothing_held) replay [] words
entered_walk _ generates words = stopped_is top.rules names (walk_from nothing_held) gen [] words
entered_walk _ soaks words = stopped_is top.rules names (walk_from nothing_held) soak [] words
entered_walk _ verifies words = stopped_is top.rules names (walk_from nothing_held) verify [] words

below : (fault : Kinds) (found : Option Line) → (if no_error_comes (or_else fault []) then found else None) ≡ (if no_error_comes fault then found else None)
below fault found = grind arith

entered_line : (s : Sub) → Entered s → (words : List Text) → line_by [] (stopped_at s.name words) ≡ parsed s words
unfolding defaults_fault
entered_line _ runs words = below (level_fault (leaf (plain_sub run Run)) [] nothing_held words false []) (found_plain Run (rows_after (rules no_options) [] words))
entered_line _ replays words = below (level_fault (leaf replay_sub) [] nothing_held words false []) (found_replay (rows_after (rules replay_options) [] words))
entered_line _ generates words = below (level_fault (leaf (script_sub gen Gen)) [] nothing_held words false []) (found_script Gen (rows_after (rules script_options) [] words))
entered_line _ soaks words = below (level_fault (leaf (script_sub soak Soak)) [] nothing_held words false []) (found_script Soak (rows_after (rules script_options) [] words))
entered_line _ verifies words = below (level_fault (leaf (plain_sub verify Verify)) [] nothing_held words false []) (found_plain Verify (rows_after (rules no_options) [] words))

entered_is : (s : Sub) → Entered s → (program : Text) (words : List Text) → parsed_line (program ∷ s.name ∷ words) ≡ parsed s words
entered_is s is program words = grind (arith, by_walk, entered_fault_is, entered_line, entered_walk)

first_fails : (program name : Text) (rest : List Text) → no_error_comes (turn_fault top names (walk_from nothing_held) name) ≡ false → parsed_line (program ∷ name ∷ rest) ≡ None
unfolding walk_fault
first_fails program name rest bad = go (turn_fault top names (walk_from nothing_held) name) bad
  where
    go : (fault : Kinds) → no_error_comes fault ≡ false
        → line_by (or_else fault (walk_fault top names (walked top.rules names (walk_from nothing_held) name) rest)) (fold (walked top.rules names) (walk_from nothing_held) (name ∷ rest)) ≡ None
    go [] f = absurd (true≢false f)
    go (k ∷ ks) f = refl

-- the name is no subcommand's
record IsOther (name : Text) : Type 0 where
  no_run : bytes_eq run name ≡ false
  no_replay : bytes_eq replay name ≡ false
  no_gen : bytes_eq gen name ≡ false
  no_soak : bytes_eq soak name ≡ false
  no_verify : bytes_eq verify name ≡ false

turn_fails : (name : Text) → IsOther name → bytes_eq name dashes ≡ false → no_error_comes (turn_fault top names (walk_from nothing_held) name) ≡ false
unfolding flags_fault bundle_met
turn_fails name o d = go (long_of name) refl (short_of name) refl
  where
    go : (l : Option (Text × Option Text)) → long_of name ≡ l → (s : Option Text) → short_of name ≡ s → no_error_comes (turn_fault top names (walk_from nothing_held) name) ≡ false
    go l l2 s e = grind arith

dashes_fail : (program : Text) (rest : List Text) → parsed_line (program ∷ dashes ∷ rest) ≡ None
unfolding clap_on_literals
dashes_fail program [] = refl
dashes_fail program (word ∷ rest) = refl

no_words : parsed_line [] ≡ None
unfolding clap_on_literals
no_words = refl

no_subcommand : (program : Text) → parsed_line (program ∷ []) ≡ None
unfolding clap_on_literals
no_subcommand program = refl

-- no other word is a subcommand
other_fails : (program name : Text) (rest : List Text) → IsOther name → parsed_line (program ∷ name ∷ rest) ≡ None
other_fails program name rest o = go (bytes_eq name dashes) refl
  where
    go : (d : Bool) → bytes_eq name dashes ≡ d → parsed_line (program ∷ name ∷ rest) ≡ None
    go true e = subst (λ (n : Text). parsed_line (program ∷ n ∷ rest) ≡ None) (sym ((bytes_eq-Decides name dashes).0 e)) (dashes_fail program rest)
    go false e = first_fails program name rest (turn_fails name o e)

-- two texts that differ do so either way round
apart : (a b : Text) → bytes_eq b a ≡ false → bytes_eq a b ≡ false
apart a b differ = go (bytes_eq a b) refl
  where
    go : (c : Bool) → bytes_eq a b ≡ c → bytes_eq a b ≡ false
    go true e =
        let is : a ≡ b = (bytes_eq-Decides a b).0 e in
        absurd (true≢false (sym (same_text a) ∙ ap (λ (t : Text). bytes_eq t a) is ∙ differ))
    go false e = e

pub parsed_is : (words : List Text) → parsed_line words ≡ command_line words
parsed_is [] = no_words
parsed_is (program ∷ []) = no_subcommand program
parsed_is (program ∷ name ∷ rest) = go (bytes_eq name run) refl (bytes_eq name replay) refl (bytes_eq name gen) refl (bytes_eq name soak) refl (bytes_eq name verify) refl
  where
    is_at : Text → Type 0
    is_at n = parsed_line (program ∷ n ∷ rest) ≡ command_line (program ∷ n ∷ rest)

    at_run : is_at run
    at_run = entered_is (plain_sub run Run) runs program rest ∙ parsed_choices (plain_sub run Run) (plain_read run Run) rest

    at_replay : is_at replay
    at_replay = entered_is replay_sub replays program rest ∙ parsed_choices replay_sub replay_read rest

    at_gen : is_at gen
    at_gen = entered_is (script_sub gen Gen) generates program rest ∙ parsed_choices (script_sub gen Gen) (script_read gen Gen) rest

    at_soak : is_at soak
    at_soak = entered_is (script_sub soak Soak) soaks program rest ∙ parsed_choices (script_sub soak Soak) (script_read soak Soak) rest

    at_verify : is_at verify
    at_verify = entered_is (plain_sub verify Verify) verifies program rest ∙ parsed_choices (plain_sub verify Verify) (plain_read verify Verify) rest

    go : (a : Bool) → bytes_eq name run ≡ a → (b : Bool) → bytes_eq name replay ≡ b → (c : Bool) → bytes_eq name gen ≡ c → (d : Bool) → bytes_eq name soak ≡ d → (e : Bool) → bytes_eq name verify ≡ e → is_at name
    go true p b q c r d s e t = subst is_at (sym ((bytes_eq-Decides name run).0 p)) at_run
    go false p true q c r d s e t = subst is_at (sym ((bytes_eq-Decides name replay).0 q)) at_replay
    go false p false q true r d s e t = subst is_at (sym ((bytes_eq-Decides name gen).0 r)) at_gen
    go false p false q false r true s e t = subst is_at (sym ((bytes_eq-Decides name soak).0 s)) at_soak
    go false p false q false r false s true t = subst is_at (sym ((bytes_eq-Decides name verify).0 t)) at_verify
    go false p false q false r false s false t =
        other_fails program name rest (record { no_run = apart run name p; no_replay = apart replay name q; no_gen = apart gen name r; no_soak = apart soak name s; no_verify = apart verify name t })
        ∙ rw (p, q, r, s, t) refl

-- ---- an error of the parser

other_kind : (kinds : Kinds) (kind : ErrorKind) → (kind ≡ OutOfMemory → ⊥) → (kind ≡ OutOfMemory) ⊎ IsAmong kind kinds → no_error_comes kinds ≡ false
other_kind kinds kind some among = grind arith

-- where an error is not want of memory, the words are not taken
pub not_taken : (app : App) (words : List Text) (kind : ErrorKind) → app ≡ goheap_app → (kind ≡ OutOfMemory → ⊥)
    → (is_simple_and_free app ≡ true → (kind ≡ OutOfMemory) ⊎ IsAmong kind (fault_of app words)) → command_line words ≡ None
not_taken app words kind is some among = grind (arith, other_kind, parsed_is)

-- where the parser takes the words, its matches are the line
pub taken : (app : App) (words : List Text) (found : Option (Text × List Row)) → app ≡ goheap_app
    → (is_simple_and_free app ≡ true → fault_of app words ≡ []) → (is_simple app ≡ true → found ≡ subcommand_of app words) → found_line found ≡ command_line words
taken app words found is passed matches =
    let good : no_error_comes (fault_of goheap_app words) ≡ true = ap no_error_comes (sym (ap (λ (a : App). fault_of a words) is) ∙ passed (ap is_simple_and_free is)) in
    let same : found ≡ subcommand_of goheap_app words = matches (ap is_simple is) ∙ ap (λ (a : App). subcommand_of a words) is in
    ap found_line same ∙ sym (ap (λ (b : Bool). if b then found_line (subcommand_of goheap_app words) else None) good) ∙ parsed_is words
