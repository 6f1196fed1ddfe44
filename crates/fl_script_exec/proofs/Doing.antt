-- Each item does one thing, and so does a script.
use Rattle.std.proofs.Common.{◌≡◌, ◌∙◌, inl, inr, List, [], ◌∷◌, ℕ, refl, sym, ap, subst, Bool, true, false}
use Rattle.std.specs.Bool.{MatchBool}
use Rattle.std.specs.Prelude.{codes}
use Rattle.fl_value.proofs.Words.{call_once}
use Rattle.fl_script_lines.specs.Commands.{EndName, Command, cores, link, disp, export, bind, call, show, write, turn, ack, register, deregister, reply, mwrite, forward, mack}
use Rattle.fl_script_lines.specs.Grammar.{silent, heading, command, unread}
use Rattle.fl_script_lines.specs.Items.{Item, a_line, a_block, open_block, is_too_long}
use Rattle.fl_script_lines.specs.Names.{Names}
use Rattle.fl_script_lines.specs.Asked.{Asked, Asks, CallAsks, asks_call, refuses}
use Rattle.fl_script_lines.proofs.AskedLemmas.{one_asked_is}
use Rattle.fl_script_lines.proofs.ItemLemmas.{some_items_is, one_items_is}
use Rattle.fl_check.proofs.TextFirsts.{some_text, one_text}
use Rattle.fl_script_lines.specs.Answers.{line}
use Rattle.fl_script_exec.specs.Transcript.{Script, beginning, Effect, effect_of, block_effect, Does, AllDo, Runs, text_of, Transcript}
use Rattle.fl_script_exec.proofs.CallTexts.{CallAt, call_at}

-- ---- what a command asks

asked_by_call : (n : Names) (e : EndName) (text : List ℕ) → CallAt text → (asked : Asked) × CallAsks n e text asked
asked_by_call n e text (inl (name, args, h)) = (asks_call n e name args, inl (name, args, h, refl))
asked_by_call n e text (inr none) = (refuses 90, inr (none, refl))

some_asked : (n : Names) (c : Command) → (asked : Asked) × Asks n c asked
some_asked n (cores k) = (_, refl)
some_asked n (link a b slots) = (_, refl)
some_asked n (disp name core) = (_, refl)
some_asked n (export s d i) = (_, refl)
some_asked n (bind p d i s back) = (_, refl)
some_asked n (call e text) = asked_by_call n e text (call_at text)
some_asked n (show e) = (_, refl)
some_asked n (write e) = (_, refl)
some_asked n (turn d) = (_, refl)
some_asked n (ack e) = (_, refl)
some_asked n (register e) = (_, refl)
some_asked n (deregister e) = (_, refl)
some_asked n (reply e message answer) = (_, refl)
some_asked n (mwrite core neighbour) = (_, refl)
some_asked n (forward core neighbour) = (_, refl)
some_asked n (mack core neighbour) = (_, refl)

-- ---- what an item does

pub some_effect : (s : Script) (item : Item) → (effect : Effect) × Does s item effect
some_effect s (a_line silent) = (_, refl)
some_effect s (a_line (command c)) = let (asked, h) = some_asked s.names c in (effect_of s asked, (asked, h, refl))
some_effect s (a_line unread) = (_, refl)
some_effect s (a_line (heading plan)) = (_, refl)
some_effect s open_block = (_, refl)
some_effect s (a_block plan text) = let (outcome, h) = some_text text in (block_effect s plan outcome, (outcome, h, refl))

pub one_effect : (s : Script) (item : Item) (x y : Effect) → Does s item x → Does s item y → x ≡ y
one_effect s (a_line silent) x y p q = p ∙ sym q
one_effect s (a_line (command c)) x y (a, ca, p) (b, cb, q) = p ∙ (ap (effect_of s) (one_asked_is call_once s.names c a b ca cb) ∙ sym q)
one_effect s (a_line unread) x y p q = p ∙ sym q
one_effect s (a_line (heading plan)) x y p q = p ∙ sym q
one_effect s open_block x y p q = p ∙ sym q
one_effect s (a_block plan text) x y (a, ma, p) (b, mb, q) = p ∙ (ap (block_effect s plan) (one_text text a b ma mb) ∙ sym q)

-- ---- what a script does

some_effects : (s : Script) (items : List Item) → (effects : List Effect) × AllDo s items effects
some_effects s [] = ([], refl)
some_effects s (item ∷ items) =
    let (first, d) = some_effect s item in
    let (others, h) = some_effects first.after items in
    (first ∷ others, (first, others, d, h, refl))

one_effects : (s : Script) (items : List Item) (xs ys : List Effect) → AllDo s items xs → AllDo s items ys → xs ≡ ys
one_effects s [] xs ys p q = p ∙ sym q
one_effects s (item ∷ items) xs ys (x, more, d, h, p) (y, others, e, k, q) =
    let same : x ≡ y = one_effect s item x y d e in
    let rest : more ≡ others = one_effects x.after items more others h (subst (λ (z : Effect). AllDo z.after items others) (sym same) k) in
    p ∙ (ap (λ (z : Effect). z ∷ more) same ∙ (ap (λ (zs : List Effect). y ∷ zs) rest ∙ sym q))

pub some_run : (s : Script) (bytes : List ℕ) → (effects : List Effect) × Runs s bytes effects
some_run s bytes =
    let (items, i) = some_items_is bytes in
    let (effects, h) = some_effects s items in
    (effects, (items, i, h))

pub one_run : (s : Script) (bytes : List ℕ) (xs ys : List Effect) → Runs s bytes xs → Runs s bytes ys → xs ≡ ys
one_run s bytes xs ys (items, i, h) (others, j, k) =
    one_effects s items xs ys h (subst (λ (z : List Item). AllDo s z ys) (sym (one_items_is bytes items others i j)) k)

-- ---- the transcript

transcript_by : (t : Bool) (A B : List ℕ → Type 0) → ((out : List ℕ) × A out) → ((out : List ℕ) × B out) → (out : List ℕ) × MatchBool t (A out) (B out)
transcript_by true A B a b = a
transcript_by false A B a b = b

pub has_transcript : (bytes : List ℕ) → (out : List ℕ) × Transcript bytes out
has_transcript bytes =
    let (effects, r) = some_run beginning bytes in
    transcript_by (is_too_long bytes) (λ out. out ≡ line (codes "refused E91")) (λ out. (es : List Effect) × Runs beginning bytes es × (out ≡ text_of es))
    (_, refl) (text_of effects, (effects, r, refl))

one_by : (t : Bool) (A B : List ℕ → Type 0) → ((x y : List ℕ) → A x → A y → x ≡ y) → ((x y : List ℕ) → B x → B y → x ≡ y)
    → (x y : List ℕ) → MatchBool t (A x) (B x) → MatchBool t (A y) (B y) → x ≡ y
one_by true A B a b = a
one_by false A B a b = b

one_text_of : (bytes x y : List ℕ) → (effects : List Effect) × Runs beginning bytes effects × (x ≡ text_of effects)
    → (effects : List Effect) × Runs beginning bytes effects × (y ≡ text_of effects) → x ≡ y
one_text_of bytes x y (es, r, p) (fs, q, e) = p ∙ (ap text_of (one_run beginning bytes es fs r q) ∙ sym e)

pub one_transcript : (bytes a b : List ℕ) → Transcript bytes a → Transcript bytes b → a ≡ b
one_transcript bytes =
    one_by (is_too_long bytes) (λ out. out ≡ line (codes "refused E91")) (λ out. (es : List Effect) × Runs beginning bytes es × (out ≡ text_of es))
    (λ x y p q. p ∙ sym q) (one_text_of bytes)
