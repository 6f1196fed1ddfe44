-- A cores file comes to one thing.
use Rattle.std.proofs.Common.{◌≡◌, ◌∙◌, ◌+◌, ℕ, Bool, true, false, List, [], ◌∷◌, sym, ap, subst}
use Rattle.std.specs.Bool.{MatchBool}
use Rattle.fl_check.specs.Text.{OneText}
use Rattle.fl_script_lines.specs.Asked.{Asked, Asks}
use Rattle.fl_script_lines.specs.Commands.{Command}
use Rattle.fl_script_lines.specs.Grammar.{silent, heading, command, unread}
use Rattle.fl_script_lines.specs.Items.{Item, a_line, a_block, open_block, OneItems, is_too_long}
use Rattle.fl_script_lines.specs.Told.{OneAsked}
use Rattle.fl_cores_file.specs.CoresFile.{Reading, FileOutcome, beginning, refused_at, belongs, does, does_block, DoesCommand, Does, lines_in, Behind, Follows, ReadsFrom}
use Rattle.fl_cores_file.specs.CoresFile.{OneOutcome}
use Rattle.fl_cores_file.specs.Verdicts.{LineVerdict, stops, goes_on}

-- ---- one line

either : {X : Type 0} (t : Bool) (P Q : X → Type 0) (x y : X) → ((x y : X) → P x → P y → x ≡ y) → ((x y : X) → Q x → Q y → x ≡ y)
    → MatchBool t (P x) (Q x) → MatchBool t (P y) (Q y) → x ≡ y
either true P Q x y one other h k = one x y h k
either false P Q x y one other h k = other x y h k

one_command : OneAsked → (r : Reading) (c : Command) (x y : LineVerdict Reading) → DoesCommand r c x → DoesCommand r c y → x ≡ y
one_command one r c x y =
    either (belongs c) (λ v. (asked : Asked) × Asks r.names c asked × (v ≡ does r asked)) (λ v. v ≡ stops 90) x y
    (λ v w (a, ca, p) (b, cb, q). p ∙ (ap (does r) (one r.names c a b ca cb) ∙ sym q)) (λ v w p q. p ∙ sym q)

one_verdict : OneAsked → OneText → (r : Reading) (item : Item) (x y : LineVerdict Reading) → Does r item x → Does r item y → x ≡ y
one_verdict asked text r (a_line silent) x y p q = p ∙ sym q
one_verdict asked text r (a_line (command c)) x y p q = one_command asked r c x y p q
one_verdict asked text r (a_line unread) x y p q = p ∙ sym q
one_verdict asked text r (a_line (heading plan)) x y p q = p ∙ sym q
one_verdict asked text r open_block x y p q = p ∙ sym q
one_verdict asked text r (a_block plan bytes) x y (a, ma, p) (b, mb, q) = p ∙ (ap (does_block r plan) (text bytes a b ma mb) ∙ sym q)

-- ---- all of them

one_behind : (line : ℕ) (v : LineVerdict Reading) (further : Reading → FileOutcome → Type 0)
    → ((r : Reading) (a b : FileOutcome) → further r a → further r b → a ≡ b) → (a b : FileOutcome) → Behind line v further a → Behind line v further b → a ≡ b
one_behind line (stops fault) further one a b p q = p ∙ sym q
one_behind line (goes_on r) further one a b p q = one r a b p q

one_follows : OneAsked → OneText → (items : List Item) (line : ℕ) (r : Reading) (a b : FileOutcome) → Follows items line r a → Follows items line r b → a ≡ b
one_follows asked text [] line r a b p q = p ∙ sym q
one_follows asked text (item ∷ items) line r a b (v, d, h) (w, e, k) =
    one_behind line v (Follows items (line + lines_in item)) (one_follows asked text items (line + lines_in item)) a b h
    (subst (λ (z : LineVerdict Reading). Behind line z (Follows items (line + lines_in item)) b) (sym (one_verdict asked text r item v w d e)) k)

one_read : OneAsked → OneText → OneItems → (bytes : List ℕ) (a b : FileOutcome) → ReadsFrom beginning 1 bytes a → ReadsFrom beginning 1 bytes b → a ≡ b
one_read asked text one bytes a b (xs, i, h) (ys, j, k) =
    one_follows asked text xs 1 beginning a b h (subst (λ (z : List Item). Follows z 1 beginning b) (sym (one bytes xs ys i j)) k)

pub one_outcome : OneAsked → OneText → OneItems → OneOutcome
one_outcome asked text items bytes a b =
    either (is_too_long bytes) (λ o. o ≡ refused_at 1 91) (ReadsFrom beginning 1 bytes) a b (λ x y p q. p ∙ sym q) (one_read asked text items bytes)
