-- Known bytes, and a script's items one after another.
use Rattle.std.proofs.Common.{◌≡◌, ◌∙◌, ◌+◌, ◌++◌, ◌∷◌, [], ◌≤◌, ◌<◌, List, ℕ, Bool, true, false, length, take, drop, sym, ap, subst, append_assoc, append-nil, refl, arith, Option, Some, None, length-append}
use Rattle.std.specs.Prelude.{IfSome, IfErr, OnOk, OnErr, Result, Ok, Err, codes, ◌==◌, ◌≢◌, ⊤}
use Rattle.std.proofs.lemmas.Bool.{true≢false, false≢true}
use Rattle.std.specs.Bool.{MatchBool}
use Rattle.std.proofs.lemmas.List.{take-append-drop}
use Rattle.std.proofs.lemmas.List.Concat.{flat_map-append}
use Rattle.std.proofs.lemmas.Bool.Decides.{nat_tests}
use Rattle.std.specs.Io.KnownBytes.{Appends, Keeps, Consumes, IsAtEnd}
use Rattle.fl_script_lines.specs.Items.{Item, ItemsOf, is_too_long}
use Rattle.fl_script_exec.specs.declared.running.ExecFault.{ExecFault}
use Rattle.fl_script_exec.specs.declared.running.ExecFault.TheVariants.{Memory, Read, Write}
use Rattle.fl_script_exec.specs.declared.script.Script.{Script as RustScript}
use Rattle.fl_model.specs.State.{State}
use Rattle.fl_script_exec.specs.Shown.{IsAt, Leads}
use Rattle.fl_script_exec.specs.Counting.{CountsOne, CountsUpTo}
use Rattle.fl_script_exec.specs.Reading.{ReadsWhole, CanBeUnread, GivesSome, GivesScript, GivesUntil, StopsWith, GoesOn}
use Rattle.fl_base.specs.Prefix.{IsPrefix}
use Rattle.fl_script_lines.specs.Answers.{line}
use Rattle.fl_script_exec.specs.CutShort.{IsProperPrefix, SomeAnswers, PartOfAnswers, LeavesWritten}
use Rattle.fl_script_exec.specs.Transcript.{Script, Effect, Does, AllDo, Runs, last_of, text_of, Transcript, beginning}
use Rattle.fl_script_exec.specs.Written.{RanOn, Ran}
use Rattle.fl_script_exec.proofs.Doing.{some_effect, some_run, one_run, one_transcript}
use Rattle.fl_script_exec.proofs.Firsts.{HasItem, has_item}

-- Known bytes.

pub appends_then : (u v w : Option (List ℕ)) (a b : List ℕ) → Appends u v a → Appends v w b → Appends u w (a ++ b)
appends_then None v w a b x y = tt
appends_then (Some xs) None w a b x y = absurd x
appends_then (Some xs) (Some ys) None a b x y = y
appends_then (Some xs) (Some ys) (Some zs) a b x y = y ∙ (ap (λ (t : List ℕ). t ++ b) x ∙ append_assoc xs a b)

pub appends_nothing : (u : Option (List ℕ)) → Appends u u []
appends_nothing None = tt
appends_nothing (Some xs) = sym (append-nil xs)

pub consumes_then : (u v w : Option (List ℕ)) (a b : List ℕ) → Consumes u v a → Consumes v w b → Consumes u w (a ++ b)
consumes_then None v w a b x y = tt
consumes_then (Some xs) None w a b x y = absurd x
consumes_then (Some xs) (Some ys) None a b x y = y
consumes_then (Some xs) (Some ys) (Some zs) a b x y = x ∙ (ap (λ (t : List ℕ). a ++ t) y ∙ sym (append_assoc a b zs))

-- a part more of a text is written
pub written_more : (u v w : Option (List ℕ)) (text rest prefix : List ℕ) (n : ℕ) → text ≡ prefix ++ rest → Appends u v prefix → Appends v w (take n rest)
    → (more : List ℕ) × (text ≡ more ++ drop n rest) × Appends u w more
written_more u v w text rest prefix n split x y = (
  prefix ++ take n rest,
  split ∙ (ap (λ (t : List ℕ). prefix ++ t) (sym (take-append-drop n rest)) ∙ sym (append_assoc prefix (take n rest) (drop n rest))),
  appends_then u v w prefix (take n rest) x y,
)

appends_kept : (u v w : Option (List ℕ)) (a : List ℕ) → Appends u v a → Keeps v w → Appends u w a
appends_kept None v w a x y = tt
appends_kept (Some xs) None w a x y = absurd x
appends_kept (Some xs) (Some ys) None a x y = absurd y
appends_kept (Some xs) (Some ys) (Some zs) a x y = y ∙ x

-- a write failed where some of the text is left
pub stopped : (u v w : Option (List ℕ)) (text rest prefix : List ℕ) → text ≡ prefix ++ rest → 0 < length rest → Appends u v prefix → Keeps v w
    → (out : List ℕ) × IsProperPrefix out text × Appends u w out
stopped u v w text [] prefix split left x y = absurd (omega (arith, left))
stopped u v w text (b ∷ rest) prefix split left x y = (prefix, (b, rest, split), appends_kept u v w prefix x y)

keeps_none : (v w : Option (List ℕ)) (n : ℕ) (rest : List ℕ) → n ≡ 0 → Appends v w (take n rest) → Keeps v w
keeps_none None w n rest e a = tt
keeps_none (Some xs) None n rest e a = a
keeps_none (Some xs) (Some ys) n rest e a =
    a ∙ (ap (λ k. xs ++ take k rest) e ∙ append-nil xs)

-- or took no byte
pub stalled : (u v w : Option (List ℕ)) (text rest prefix : List ℕ) (n : ℕ) → text ≡ prefix ++ rest → 0 < length rest → Appends u v prefix → n ≡ 0 → Appends v w (take n rest)
    → (out : List ℕ) × IsProperPrefix out text × Appends u w out
stalled u v w text rest prefix n split left x e y = stopped u v w text rest prefix split left x (keeps_none v w n rest e y)

-- What was read.

at_test : (b : Bool) (P Q : Type 0) → (b ≡ true → P) → (b ≡ false → Q) → MatchBool b P Q
at_test true P Q whenever otherwise = whenever refl
at_test false P Q whenever otherwise = otherwise refl

longer : (input text more : List ℕ) → input ≡ text ++ more → 1048576 < length text → is_too_long input ≡ true
longer input text more e h =
    let l : length input ≡ length text + length more = ap (λ (z : List ℕ). length z) e ∙ length-append text more in
    let less : 1048576 < length input = omega (arith, h, l) in
    grind (arith, nat_tests, less)

long_text : (text : List ℕ) → 1048576 < length text → is_too_long text ≡ true
long_text text h = grind (arith, nat_tests, h)

-- ---- What the reader has given.

-- a script and one read more
both_few : (text more : List ℕ) → length text ≤ 1048576 → length more ≤ 16384 → length (text ++ more) ≤ 1064960
both_few text more few chunk = omega (arith, length-append text more, few, chunk)

pub gives_more : (u v w : Option (List ℕ)) (text more : List ℕ) → Consumes u v text → length text ≤ 1048576 → Consumes v w more → length more ≤ 16384
    → GivesSome u w
gives_more u v w text more x few y chunk = (text ++ more, (consumes_then u v w text more x y, both_few text more few chunk))

pub on_err : {T E P : Type 0} (r : Result T E) → P → OnErr r P
on_err (Ok x) p = tt
on_err (Err e) p = p

pub gives_all : (u v w : Option (List ℕ)) (text : List ℕ) → Consumes u v text → length text ≤ 1048576 → Consumes v w [] → IsAtEnd w → GivesScript u text w
gives_all u v w text x few y end = (
  (subst (λ (t : List ℕ). Consumes u w t) (append-nil text) (consumes_then u v w text [] x y), omega (arith, few)),
  at_test (is_too_long text) ⊤ (IsAtEnd w) (λ _. tt) (λ _. end),
)

pub given_until : (u v : Option (List ℕ)) (r : Result (Unit {0}) ExecFault) (text : List ℕ) → GivesScript u text v → GivesUntil u r v
given_until u v (Ok done) text g = (text, g)
given_until u v (Err Write) text g = (text, g)
given_until u v (Err Memory) text g = (text, g.0)
given_until u v (Err Read) text g = (text, g.0)

pub given_some : (u v : Option (List ℕ)) (fault : ExecFault) → fault ≢ Write → GivesSome u v → GivesUntil u (Err fault) v
given_some u v Write other g = absurd (other refl)
given_some u v Memory other g = g
given_some u v Read other g = g

-- ---- How often it was read.

pub counts_none : (u : Option ℕ) → CountsUpTo 0 u u
counts_none None = tt
counts_none (Some n) = omega arith

pub counts_more : (k most : ℕ) (u v w : Option ℕ) → CountsUpTo k u v → CountsOne v w → k < most → CountsUpTo most u w
counts_more k most None v w x y h = tt
counts_more k most (Some a) None None x y h = tt
counts_more k most (Some a) None (Some c) x y h = absurd y
counts_more k most (Some a) (Some b) None x y h = tt
counts_more k most (Some a) (Some b) (Some c) x y h = omega (arith, x, y, h)

-- ---- Items

pub begins : (s : Script) (text : List ℕ) → GoesOn s text s text []
begins s text = record { runs = λ more r. r }

-- an item, and then what the rest does
one_first : (now : Script) (rest behind : List ℕ) (item : Item) (effect : Effect) (more : List Effect) → Leads rest behind item → Does now item effect
    → Runs effect.after behind more → Runs now rest (effect ∷ more)
one_first now rest behind item effect more first d (items, i, h) = (item ∷ items, first items i, (effect, more, d, h, refl))

pub item_more : (s now : Script) (whole rest behind : List ℕ) (item : Item) (effect : Effect) (done : List Effect)
    → GoesOn s whole now rest done → Leads rest behind item → Does now item effect → GoesOn s whole effect.after behind (done ++ effect ∷ [])
item_more s now whole rest behind item effect done g first d = record {
  runs = λ more r. subst (λ (es : List Effect). Runs s whole es) (sym (append_assoc done (effect ∷ []) more))
      (g.runs (effect ∷ more) (one_first now rest behind item effect more first d r));
}

-- nothing more is done where the script ends
pub all_done : (s now : Script) (whole rest : List ℕ) (done : List Effect) → GoesOn s whole now rest done → length rest ≡ 0 → Runs s whole done
all_done s now whole [] done g h = subst (λ (es : List Effect). Runs s whole es) (append-nil done) (g.runs [] ([], refl, refl))
all_done s now whole (b ∷ rest) done g h = absurd (omega (arith, h))

text_push : (done : List Effect) (effect : Effect) → text_of (done ++ effect ∷ []) ≡ text_of done ++ effect.text
text_push done effect = flat_map-append Effect.text done (effect ∷ []) ∙ ap (λ (t : List ℕ). text_of done ++ t) (append-nil effect.text)

-- the script behind an item of the rest
after_item : (s now : Script) (whole rest behind : List ℕ) (item : Item) (effect : Effect) (done : List Effect) → GoesOn s whole now rest done
    → Leads rest behind item → Does now item effect → (others : List Effect) × Runs s whole (done ++ effect ∷ others)
after_item s now whole rest behind item effect done g first d =
    let (others, r) = some_run effect.after behind in
    (others, g.runs (effect ∷ others) (one_first now rest behind item effect others first d r))

-- memory ran out before an item's answer was written
pub some_answers : (s now : Script) (whole rest behind : List ℕ) (item : Item) (done : List Effect) → GoesOn s whole now rest done
    → Leads rest behind item → SomeAnswers s whole (text_of done)
some_answers s now whole rest behind item done g first =
    let (effect, d) = some_effect now item in
    let (others, r) = after_item s now whole rest behind item effect done g first d in
    (done, effect, others, r, refl)

-- a write failed while an item's answer was written
prefix_within : (done others : List Effect) (effect : Effect) (prefix : List ℕ) → IsProperPrefix prefix effect.text
    → IsProperPrefix (text_of done ++ prefix) (text_of (done ++ effect ∷ others))
prefix_within done others effect prefix (next, more, e) = (
  next,
  more ++ text_of others,
  flat_map-append Effect.text done (effect ∷ others)
      ∙ (ap (λ (t : List ℕ). text_of done ++ (t ++ text_of others)) e
      ∙ (ap (λ (t : List ℕ). text_of done ++ t) (append_assoc prefix (next ∷ more) (text_of others))
      ∙ sym (append_assoc (text_of done) prefix (next ∷ more ++ text_of others)))),
)

part_of_answers : (s now : Script) (whole rest behind prefix : List ℕ) (item : Item) (effect : Effect) (done : List Effect) → GoesOn s whole now rest done
    → Leads rest behind item → Does now item effect → IsProperPrefix prefix effect.text → PartOfAnswers s whole (text_of done ++ prefix)
part_of_answers s now whole rest behind prefix item effect done g first d is =
    let (others, r) = after_item s now whole rest behind item effect done g first d in
    (done ++ effect ∷ others, r, prefix_within done others effect prefix is)

to_write : (fault : ExecFault) (s : Script) (bytes out : List ℕ) → fault ≡ Write → PartOfAnswers s bytes out → StopsWith fault s bytes out
to_write fault s bytes out e p = subst (λ (f : ExecFault). StopsWith f s bytes out) (sym e) p

pub run_fault : (fault : ExecFault) (u v w : Option (List ℕ)) (s now : Script) (whole rest behind text : List ℕ) (item : Item) (effect : Effect)
    (done : List Effect) → fault ≡ Write → GoesOn s whole now rest done → Appends u v (text_of done) → Leads rest behind item → Does now item effect
    → text ≡ effect.text → (prefix : List ℕ) × IsProperPrefix prefix text × Appends v w prefix
    → (out : List ℕ) × StopsWith fault s whole out × Appends u w out
run_fault fault u v w s now whole rest behind text item effect done is g a first d e (prefix, (next, more, split), b) = (
  text_of done ++ prefix,
  to_write fault s whole (text_of done ++ prefix) is (part_of_answers s now whole rest behind prefix item effect done g first d (next, more, sym e ∙ split)),
  appends_then u v w (text_of done) prefix a b,
)

-- a script is behind the last item
last_push : (s : Script) (done : List Effect) (effect : Effect) → last_of s (done ++ effect ∷ []) ≡ effect.after
last_push s [] effect = refl
last_push s (first ∷ done) effect = last_push first.after done effect

pub run_more : {M : Type 0} (shows : M → State → Type 0) (u v w : Option (List ℕ)) (r : RustScript M) (s now : Script) (whole rest behind text : List ℕ)
    (item : Item) (effect : Effect) (done : List Effect) → GoesOn s whole now rest done → Appends u v (text_of done) → Leads rest behind item
    → Does now item effect → IsAt shows r effect.after → text ≡ effect.text → Appends v w text
    → (after : Script) × (effects : List Effect) × IsAt shows r after × GoesOn s whole after behind effects × Appends u w (text_of effects) × (after ≡ last_of s effects)
run_more shows u v w r s now whole rest behind text item effect done g a first d at e b = (
  effect.after,
  done ++ effect ∷ [],
  at,
  item_more s now whole rest behind item effect done g first d,
  subst (λ (t : List ℕ). Appends u w t) (sym (text_push done effect))
      (subst (λ (t : List ℕ). Appends u w (text_of done ++ t)) e (appends_then u v w (text_of done) text a b)),
  sym (last_push s done effect),
)

-- ---- The whole

by_test : (P Q : Type 0) (b : Bool) → b ≡ false → MatchBool b P Q → Q
by_test P Q true f h = absurd (true≢false f)
by_test P Q false f h = h

by_true : (P Q : Type 0) (b : Bool) → b ≡ true → MatchBool b P Q → P
by_true P Q true t h = h
by_true P Q false t h = absurd (false≢true t)

to_false : (P Q : Type 0) (b : Bool) → b ≡ false → Q → MatchBool b P Q
to_false P Q true f q = absurd (true≢false f)
to_false P Q false f q = q

to_true : (P Q : Type 0) (b : Bool) → b ≡ true → P → MatchBool b P Q
to_true P Q true t p = p
to_true P Q false t p = absurd (false≢true t)

whole_text : (input text : List ℕ) → ReadsWhole input text → is_too_long text ≡ false → text ≡ input
whole_text input text h f = by_test (is_too_long input ≡ true) (text ≡ input) (is_too_long text) f h

long_input : (input text : List ℕ) → ReadsWhole input text → is_too_long text ≡ true → is_too_long input ≡ true
long_input input text h t = by_true (is_too_long input ≡ true) (text ≡ input) (is_too_long text) t h

abbrev pub Answers : List ℕ → List ℕ → Type 0
Answers bytes out = (effects : List Effect) × Runs beginning bytes effects × (out ≡ text_of effects)

at_short : (input out : List ℕ) → is_too_long input ≡ false → Answers input out → Transcript input out
at_short input out f w = to_false (out ≡ line (codes "refused E91")) (Answers input out) (is_too_long input) f w

at_long : (input out : List ℕ) → is_too_long input ≡ true → out ≡ line (codes "refused E91") → Transcript input out
at_long input out t e = to_true (out ≡ line (codes "refused E91")) (Answers input out) (is_too_long input) t e

short_whole : (input text : List ℕ) → ReadsWhole input text → length text ≤ 1048576 → (text ≡ input) × (is_too_long input ≡ false)
short_whole input text h short =
    let few : is_too_long text ≡ false = grind (arith, nat_tests, short) in
    let same : text ≡ input = whole_text input text h few in
    (same, sym (ap is_too_long same) ∙ few)

pub transcript_all : (u : Option (List ℕ)) (v w : Option (List ℕ)) (text : List ℕ) → IfSome u (λ input. ReadsWhole input text) → length text ≤ 1048576
    → (effects : List Effect) × Runs beginning text effects × Appends v w (text_of effects)
    → IfSome u (λ input. (out : List ℕ) × Transcript input out × Appends v w out)
transcript_all None v w text h short x = tt
transcript_all (Some input) v w text h short (effects, r, a) =
    let (same, few) = short_whole input text h short in
    (text_of effects, at_short input (text_of effects) few (effects, subst (λ (t : List ℕ). Runs beginning t effects) same r, refl), a)

leaves_short : (fault : ExecFault) (input out : List ℕ) → is_too_long input ≡ false → StopsWith fault beginning input out → LeavesWritten fault input out
leaves_short Memory input out f w = to_false (out ≡ []) (SomeAnswers beginning input out) (is_too_long input) f w
leaves_short Read input out f w = absurd w
leaves_short Write input out f (effects, r, is) = (text_of effects, at_short input (text_of effects) f (effects, r, refl), is)

leaves_part : (fault : ExecFault) (u : Option (List ℕ)) (v w : Option (List ℕ)) (text : List ℕ) → IfSome u (λ input. ReadsWhole input text) → length text ≤ 1048576
    → (out : List ℕ) × StopsWith fault beginning text out × Appends v w out
    → IfSome u (λ input. (out : List ℕ) × LeavesWritten fault input out × Appends v w out)
leaves_part fault None v w text h short x = tt
leaves_part fault (Some input) v w text h short (out, stops, a) =
    let (same, few) = short_whole input text h short in
    (out, leaves_short fault input out few (subst (λ (t : List ℕ). StopsWith fault beginning t out) same stops), a)

pub leaves_run : {A M : Type 0} (shows : M → State → Type 0) (r : Result A ExecFault) (script : RustScript M) (u : Option (List ℕ)) (v w : Option (List ℕ))
    (text bytes : List ℕ) → IfSome u (λ input. ReadsWhole input text) → length text ≤ 1048576 → IsAt shows script beginning → bytes ≡ text
    → IfErr r (λ fault. (s : Script) → IsAt shows script s → (out : List ℕ) × StopsWith fault s bytes out × Appends v w out)
    → IfErr r (λ fault. IfSome u (λ input. (out : List ℕ) × LeavesWritten fault input out × Appends v w out))
leaves_run shows (Ok x) script u v w text bytes h short at e stops = tt
leaves_run shows (Err fault) script u v w text bytes h short at e stops =
    leaves_part fault u v w text h short
    (subst (λ (t : List ℕ). (out : List ℕ) × StopsWith fault beginning t out × Appends v w out) e (stops beginning at))

long_write : (u : Option (List ℕ)) (v w : Option (List ℕ)) (text : List ℕ) → IfSome u (λ input. ReadsWhole input text) → 1048576 < length text
    → (prefix : List ℕ) × IsProperPrefix prefix (line (codes "refused E91")) × Appends v w prefix
    → IfSome u (λ input. (out : List ℕ) × LeavesWritten Write input out × Appends v w out)
long_write None v w text h long x = tt
long_write (Some input) v w text h long (prefix, is, a) =
    let most : is_too_long text ≡ true = grind (arith, nat_tests, long) in
    (prefix, (line (codes "refused E91"), at_long input _ (long_input input text h most) refl, is), a)

pub leaves_long : {A : Type 0} (r : Result A ExecFault) (u : Option (List ℕ)) (v w : Option (List ℕ)) (text : List ℕ) → IfSome u (λ input. ReadsWhole input text) → 1048576 < length text
    → OnErr r ((prefix : List ℕ) × IsProperPrefix prefix (line (codes "refused E91")) × Appends v w prefix) → IfErr r (λ fault. fault ≡ Write)
    → IfErr r (λ fault. IfSome u (λ input. (out : List ℕ) × LeavesWritten fault input out × Appends v w out))
leaves_long (Ok x) u v w text h long part is = tt
leaves_long (Err fault) u v w text h long part is =
    subst (λ (f : ExecFault). IfSome u (λ input. (out : List ℕ) × LeavesWritten f input out × Appends v w out)) (sym is) (long_write u v w text h long part)

-- ---- What it ran on

-- a machine at the end of a script ran it
pub ran_on : {M : Type 0} (shows : M → State → Type 0) (r : RustScript M) (s now : Script) (bytes : List ℕ) (done : List Effect) → IsAt shows r now → now ≡ last_of s done
    → Runs s bytes done → RanOn shows r.machine s bytes
ran_on shows r s now bytes done at last runs = (done, runs, subst (λ (x : Script). shows r.machine x.state) last at.shown)

ran_short : {M : Type 0} (shows : M → State → Type 0) (input : List ℕ) → is_too_long input ≡ false → (input ≢ [] → (m : M) × RanOn shows m beginning input) → Ran shows input
ran_short {M} shows input few ran = to_false ⊤ (input ≢ [] → (m : M) × RanOn shows m beginning input) (is_too_long input) few ran

pub ran_all : {M : Type 0} (shows : M → State → Type 0) (m : M) (u : Option (List ℕ)) (text bytes : List ℕ) → IfSome u (λ input. ReadsWhole input text) → length text ≤ 1048576
    → bytes ≡ text → RanOn shows m beginning bytes → IfSome u (λ input. Ran shows input)
ran_all shows m None text bytes h short e ran = tt
ran_all shows m (Some input) text bytes h short e ran =
    let (same, few) = short_whole input text h short in
    ran_short shows input few (λ _. (m, subst (RanOn shows m beginning) (e ∙ same) ran))

-- there was nothing to run
pub ran_none : {M : Type 0} (shows : M → State → Type 0) (u : Option (List ℕ)) (text : List ℕ) → IfSome u (λ input. ReadsWhole input text) → length text ≡ 0 → IfSome u (λ input. Ran shows input)
ran_none shows None text h none = tt
ran_none shows (Some input) [] h none = let (same, few) = short_whole input [] h (omega arith) in ran_short shows input few (λ some. absurd (some (sym same)))
ran_none shows (Some input) (b ∷ text) h none = absurd (omega (arith, none))

ran_too_long : {M : Type 0} (shows : M → State → Type 0) (input : List ℕ) → is_too_long input ≡ true → Ran shows input
ran_too_long {M} shows input much = to_true ⊤ (input ≢ [] → (m : M) × RanOn shows m beginning input) (is_too_long input) much tt

-- or too much
pub ran_long : {A M : Type 0} (r : Result A ExecFault) (shows : M → State → Type 0) (u : Option (List ℕ)) (text : List ℕ) → IfSome u (λ input. ReadsWhole input text) → 1048576 < length text
    → OnOk r (IfSome u (λ input. Ran shows input))
ran_long (Ok x) shows None text h long = tt
ran_long (Ok x) shows (Some input) text h long = ran_too_long shows input (long_input input text h (long_text text long))
ran_long (Err fault) shows u text h long = tt

-- ---- Nothing was written yet

-- a script with a byte does something
none_by : (input : List ℕ) (items : List Item) (effects : List Effect) → ItemsOf input items → HasItem items → AllDo beginning items effects
    → SomeAnswers beginning input []
none_by input items effects i (item, more, e) h =
    let (first, others, d, rest, is) = subst (λ (z : List Item). AllDo beginning z effects) e h in
    ([], first, others, (items, i, subst (λ (z : List Effect). AllDo beginning items z) is h), refl)

none_yet : (input : List ℕ) → 0 < length input → SomeAnswers beginning input []
none_yet input some =
    let (effects, (items, i, h)) = some_run beginning input in
    none_by input items effects i (has_item input items some i) h

no_answer : (input out : List ℕ) → out ≡ [] → 0 < length input → LeavesWritten Memory input out
no_answer input out e some =
    at_test (is_too_long input) (out ≡ []) (SomeAnswers beginning input out)
    (λ _. e) (λ _. subst (SomeAnswers beginning input) (sym e) (none_yet input some))

leaves_none : (fault : ExecFault) (input : List ℕ) → CanBeUnread fault input → LeavesWritten fault input []
leaves_none Memory input some = no_answer input [] refl some
leaves_none Read input some = refl
leaves_none Write input some = absurd some

pub leaves_unread : (fault : ExecFault) (u : Option (List ℕ)) (v : Option (List ℕ)) → IfSome u (λ input. CanBeUnread fault input)
    → IfSome u (λ input. (out : List ℕ) × LeavesWritten fault input out × Appends v v out)
leaves_unread fault None v h = tt
leaves_unread fault (Some input) v h = ([], leaves_none fault input h, appends_nothing v)

-- memory ran out before the first item
pub leaves_unstarted : (u : Option (List ℕ)) (v : Option (List ℕ)) (text : List ℕ) → IfSome u (λ input. ReadsWhole input text) → length text ≤ 1048576
    → 0 < length text → IfSome u (λ input. (out : List ℕ) × LeavesWritten Memory input out × Appends v v out)
leaves_unstarted None v text h short some = tt
leaves_unstarted (Some input) v text h short some =
    let (same, few) = short_whole input text h short in
    let long : length text ≡ length input = ap (λ (z : List ℕ). length z) same in
    ([], no_answer input [] refl (omega (arith, long, some)), appends_nothing v)

-- what was put into an empty buffer
pub put_alone : (before after deref text : List ℕ) → before ≡ [] → after ≡ before ++ text → deref ≡ after → deref ≡ text
put_alone before after deref text e f g = g ∙ (f ∙ ap (λ (z : List ℕ). z ++ text) e)

pub no_more : (n : ℕ) (r : Bool) → r ≡ (n == 0) → r ≡ true → n ≡ 0
no_more n r e t = let h : (n == 0) ≡ true = sym e ∙ t in grind (arith, nat_tests, h)

pub more_left : (n : ℕ) (r : Bool) → r ≡ (n == 0) → r ≡ false → 0 < n
more_left n r e f = let h : (n == 0) ≡ false = sym e ∙ f in grind (arith, nat_tests, h)

-- ---- What is left is a prefix

prefix_of_some : (bytes prefix whole : List ℕ) → SomeAnswers beginning bytes prefix → Answers bytes whole → IsPrefix prefix whole
prefix_of_some bytes prefix whole (done, next, others, r, e) (effects, q, f) =
    let same : effects ≡ done ++ next ∷ others = one_run beginning bytes effects (done ++ next ∷ others) q r in (
      text_of (next ∷ others),
      f ∙ (ap text_of same ∙ (flat_map-append Effect.text done (next ∷ others) ∙ ap (λ (t : List ℕ). t ++ text_of (next ∷ others)) (sym e))),
    )

prefix_of_memory : (t : Bool) (bytes prefix whole : List ℕ) → MatchBool t (prefix ≡ []) (SomeAnswers beginning bytes prefix)
    → MatchBool t (whole ≡ line (codes "refused E91")) (Answers bytes whole) → IsPrefix prefix whole
prefix_of_memory true bytes prefix whole x y = (whole, ap (λ (t : List ℕ). t ++ whole) (sym x))
prefix_of_memory false bytes prefix whole x y = prefix_of_some bytes prefix whole x y

pub prefix_of_leavings : (fault : ExecFault) (bytes prefix whole : List ℕ) → LeavesWritten fault bytes prefix → Transcript bytes whole → IsPrefix prefix whole
prefix_of_leavings Memory bytes prefix whole x y = prefix_of_memory (is_too_long bytes) bytes prefix whole x y
prefix_of_leavings Read bytes prefix whole x y = (whole, ap (λ (t : List ℕ). t ++ whole) (sym x))
prefix_of_leavings Write bytes prefix whole (all, t, (next, more, e)) y = (next ∷ more, one_transcript bytes whole all y t ∙ e)
