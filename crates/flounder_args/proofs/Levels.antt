-- What one command without commands of its own makes of words, a word at a time: the walk's own steps stay closed, so that
-- no proof opens them for a whole line at once.
use Rattle.std.proofs.Common.{◌≡◌, ◌∙◌, ℕ, false, refl, ap, ap₂, List, [], ◌∷◌, None}
use Rattle.clap.specs.Kinds.{Kinds, or_else}
use Rattle.clap.specs.Words.{Text, Rule, Shape}
use Rattle.clap.specs.Walk.{Held, Walk, Step, Waiting, after_step, arg_by_id, arg_by_index, finished, nothing_held, option_word, plain_word, settled, to_positional, walk, walk_from, walked, word_met}
use Rattle.clap.specs.Walk.{idle, option, value}
use Rattle.clap.specs.Faults.{check_fault, defaults_fault, level_fault, settle_fault, step_fault, turn_fault, walk_fault}
use Rattle.flounder_args.specs.Words.{BeginsWithoutHyphen}

-- where a walk stands that met no `--` and no command
abbrev pub stands : Held → Waiting → ℕ → Walk
stands h waiting position = record { held = h; waiting = waiting; position = position; is_trailing = false; stopped = None }

-- a word without `-` before it where nothing waits goes to a positional
positional_met : (c : List Rule) (position : ℕ) (word : Text) (h : Held) → BeginsWithoutHyphen word → word_met c [] false idle position word h ≡ (h, value)
positional_met c position [] h free = refl
positional_met c position (b ∷ bytes) h free = simp free

abbrev pub placed : List Rule → ℕ → Text → Held → Walk
placed c position word h = to_positional c (arg_by_index c position) word (stands h idle position) h

pub positional_walked : (c : List Rule) (position : ℕ) (word : Text) (h : Held) → BeginsWithoutHyphen word → walked c [] (stands h idle position) word ≡ placed c position word h
unfolding walked
positional_walked c position word h free = ap (λ (met : Held × Step). after_step c word (stands h idle position) met.0 met.1) (positional_met c position word h free)

pub positional_turn : (s : Shape) (position : ℕ) (word : Text) (h : Held) → BeginsWithoutHyphen word → turn_fault s [] (stands h idle position) word ≡ step_fault s position h value
positional_turn s position [] h free = refl
positional_turn s position (b ∷ bytes) h free = simp free

-- and to an option that waits for it
value_met : (c : List Rule) (id : Text) (position : ℕ) (word : Text) (h : Held) → BeginsWithoutHyphen word → word_met c [] false (option id) position word h ≡ plain_word c (option id) word h
value_met c id position [] h free = refl
value_met c id position (b ∷ bytes) h free = simp free

abbrev pub handed : List Rule → Text → ℕ → Text → Held → Walk
handed c id position word h = stands (option_word (arg_by_id c id) id word h).0 (option_word (arg_by_id c id) id word h).1 position

pub value_walked : (c : List Rule) (id : Text) (position : ℕ) (word : Text) (h : Held) → BeginsWithoutHyphen word → walked c [] (stands h (option id) position) word ≡ handed c id position word h
unfolding walked
value_walked c id position word h free = ap (λ (met : Held × Step). after_step c word (stands h (option id) position) met.0 met.1) (value_met c id position word h free)

pub value_turn : (s : Shape) (id : Text) (position : ℕ) (word : Text) (h : Held) → BeginsWithoutHyphen word → turn_fault s [] (stands h (option id) position) word ≡ []
value_turn s id position [] h free = refl
value_turn s id position (b ∷ bytes) h free = simp free

-- two words that pass, and a word that passes before others
pub two_pass : (s : Shape) (w v : Walk) (a b : Text) → walked s.rules [] w a ≡ v → turn_fault s [] w a ≡ [] → turn_fault s [] v b ≡ [] → walk_fault s [] w (a ∷ b ∷ []) ≡ []
unfolding walk_fault
two_pass s w v a b step first second = ap₂ or_else first (ap (λ (x : Walk). walk_fault s [] x (b ∷ [])) step ∙ ap (λ (kinds : Kinds). or_else kinds []) second)

pub more_pass : (s : Shape) (w v : Walk) (a : Text) (others : List Text) → walked s.rules [] w a ≡ v → turn_fault s [] w a ≡ [] → walk_fault s [] v others ≡ [] → walk_fault s [] w (a ∷ others) ≡ []
unfolding walk_fault
more_pass s w v a others step first pass = ap₂ or_else first (ap (λ (x : Walk). walk_fault s [] x others) step ∙ pass)

-- what is left to judge behind words that pass
abbrev pub fault_behind : Shape → Held → Kinds
fault_behind s h = or_else (settle_fault s.rules s.args_override_self h)
    (or_else (defaults_fault (settled s.rules h).rows s.rules) (check_fault s (finished s.rules h) false))

pub level_passed : (s : Shape) (words : List Text) (w : Walk) → walk s.rules [] nothing_held words ≡ w → walk_fault s [] (walk_from nothing_held) words ≡ [] → level_fault s [] nothing_held words false [] ≡ fault_behind s w.held
level_passed s words w walks pass = ap₂ or_else pass (ap (λ (x : Walk). fault_behind s x.held) walks)
