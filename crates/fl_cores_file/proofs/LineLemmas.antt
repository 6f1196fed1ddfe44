-- How many lines the items of a text have; and what the rest of a text comes to.
use Rattle.std.proofs.Common.{◌≡◌, ◌≤◌, ◌+◌, ◌*◌, ◌==◌, ◌++◌, ℕ, Bool, true, false, if◌then◌else◌, List, [], ◌∷◌, length, inl, inr, refl, sym, subst, arith, cond}
use Rattle.std.specs.Prelude.{IfOk, OnErr, Result, Ok, Err}
use Rattle.std.specs.declared.alloc.AllocError.{AllocError}
use Rattle.std.specs.Bool.{MatchBool}
use Rattle.std.specs.List.{count_by}
use Rattle.std.proofs.lemmas.Bool.Decides.{nat_tests}
use Rattle.std.proofs.lemmas.List.Sums.{sum_by-cons, sum_by-append}
use Rattle.fl_script_lines.specs.Grammar.{Line, silent, heading, command, unread}
use Rattle.fl_script_lines.specs.Items.{Item, put_first, lines_of, Mode, outside, inside, Behind, Items, ItemsOf, SomeItems, is_too_long}
use Rattle.fl_cores_file.specs.declared.stop.CoresLineFault.{CoresLineFault}
use Rattle.fl_cores_file.specs.declared.stop.CoresLineFault.TheVariants.{Refused, Memory}
use Rattle.fl_cores_file.specs.declared.file.CoresText.{CoresText}
use Rattle.fl_cores_file.specs.CoresFile.{Reading, beginning, CoresFile, FileOutcome, refused_at, is_file, file_of, lines_in, Does, ReadsFrom, Reads}
use Rattle.fl_cores_file.specs.Files.{outcome_of}
use Rattle.fl_cores_file.specs.Verdicts.{stops, goes_on, ComesTo}

-- line feeds
abbrev pub feeds : List ℕ → ℕ
feeds bytes = count_by (λ b. b == 10) bytes

-- a line counts as one, and once more for its line feed
abbrev pub weight : List (List ℕ) → ℕ
weight [] = 0
weight (line ∷ lines) = 1 + feeds line + weight lines

abbrev pub total : List Item → ℕ
total [] = 0
total (item ∷ items) = lines_in item + total items

-- the lines of a block that is being read
abbrev pub of_mode : Mode → ℕ
of_mode outside = 0
of_mode (inside plan text) = 1 + feeds text

one_more : (b : ℕ) (bytes : List ℕ) → feeds (b ∷ bytes) ≡ (if b == 10 then 1 else 0) + feeds bytes
one_more b bytes = sum_by-cons (λ c. cond (c == 10) 1 0) b bytes

both : (x y : List ℕ) → feeds (x ++ y) ≡ feeds x + feeds y
both x y = sum_by-append (λ c. cond (c == 10) 1 0) x y

-- a byte is in one line, and is one line feed at most
put_weight : (b : ℕ) (lines : List (List ℕ)) → weight (put_first b lines) ≤ 2 + weight lines
put_weight b [] = let e = one_more b [] in by (b == 10) e where
  by : (t : Bool) → feeds (b ∷ []) ≡ (if t then 1 else 0) + 0 → 1 + feeds (b ∷ []) + 0 ≤ 2 + 0
  by true e = omega (arith, e)
  by false e = omega (arith, e)
put_weight b (line ∷ lines) = by (b == 10) (one_more b line) (one_more b []) where
  by : (t : Bool) → feeds (b ∷ line) ≡ (if t then 1 else 0) + feeds line → feeds (b ∷ []) ≡ (if t then 1 else 0) + 0
      → weight (if t then (b ∷ []) ∷ line ∷ lines else (b ∷ line) ∷ lines) ≤ 2 + weight (line ∷ lines)
  by true e f = omega (arith, e, f)
  by false e f = omega (arith, e, f)

pub lines_weigh : (bytes : List ℕ) → weight (lines_of bytes) ≤ 2 * length bytes
lines_weigh [] = omega arith
lines_weigh (b ∷ bytes) = let h = lines_weigh bytes in let k = put_weight b (lines_of bytes) in omega (arith, h, k)

behind_few : (line : List ℕ) (lines : List (List ℕ)) (l : Line) (items : List Item) → Behind l (Items lines) items
    → ((mode : Mode) (more : List Item) → Items lines mode more → total more ≤ weight lines + of_mode mode) → total items ≤ 1 + feeds line + weight lines + 0
behind_few line lines silent items h f = let k = f outside h.0 h.1 in subst (λ (x : List Item). total x ≤ 1 + feeds line + weight lines + 0) (sym h.2) (omega (arith, k))
behind_few line lines (command c) items h f = let k = f outside h.0 h.1 in subst (λ (x : List Item). total x ≤ 1 + feeds line + weight lines + 0) (sym h.2) (omega (arith, k))
behind_few line lines unread items h f = let k = f outside h.0 h.1 in subst (λ (x : List Item). total x ≤ 1 + feeds line + weight lines + 0) (sym h.2) (omega (arith, k))
behind_few line lines (heading plan) items h f = let k = f (inside plan []) items h in omega (arith, k)

-- items have no more lines than these weigh
few : (lines : List (List ℕ)) (mode : Mode) (items : List Item) → Items lines mode items → total items ≤ weight lines + of_mode mode
few [] outside items h = subst (λ (x : List Item). total x ≤ 0 + 0) (sym h) (omega arith)
few [] (inside plan text) items h = subst (λ (x : List Item). total x ≤ 0 + (1 + feeds text)) (sym h) (omega arith)
few (line ∷ lines) outside items (bare, l, e, is, h) = behind_few line lines l items h (few lines)
few (line ∷ lines) (inside plan text) items (inl (e, rest, h, is)) =
    let k = few lines outside rest h in
    subst (λ (x : List Item). total x ≤ 1 + feeds line + weight lines + (1 + feeds text)) (sym is) (omega (arith, k))
few (line ∷ lines) (inside plan text) items (inr (e, h)) =
    let k = few lines (inside plan (text ++ line)) items h in
    let f = both text line in
    omega (arith, k, f)

pub few_lines : (bytes : List ℕ) (items : List Item) → ItemsOf bytes items → 1 + total items ≤ 1 + 2 * length bytes
few_lines bytes items h = let k = few (lines_of bytes) outside items h in let w = lines_weigh bytes in omega (arith, k, w)

-- ---- one item more was read

pub read_more : (r r2 : Reading) (line : ℕ) (bytes rest : List ℕ) (item : Item) (o : FileOutcome)
    → ((items : List Item) → ItemsOf rest items → ItemsOf bytes (item ∷ items)) → Does r item (goes_on r2)
    → ReadsFrom r2 (line + lines_in item) rest o → ReadsFrom r line bytes o
read_more r r2 line bytes rest item o joins does (items, h, f) = (item ∷ items, joins items h, (goes_on r2, does, f))

pub read_stop : (r : Reading) (line fault : ℕ) (bytes rest : List ℕ) (item : Item) → SomeItems
    → ((items : List Item) → ItemsOf rest items → ItemsOf bytes (item ∷ items)) → Does r item (stops fault)
    → ReadsFrom r line bytes (refused_at line fault)
read_stop r line fault bytes rest item some joins does =
    let h = some rest in (item ∷ h.0, joins h.0 h.1, (stops fault, does, refl))

pub read_end : (r : Reading) (line : ℕ) (bytes : List ℕ) → length bytes ≡ 0 → ReadsFrom r line bytes (is_file (file_of r))
read_end r line [] e = ([], refl, refl)
read_end r line (b ∷ bytes) e = absurd (omega (arith, e))

-- ---- what a stop and an end tell

reads_by : (text : List ℕ) (o : FileOutcome) → is_too_long text ≡ false → ReadsFrom beginning 1 text o → Reads text o
reads_by text o short h = by (is_too_long text) short h where
  by : (t : Bool) → t ≡ false → ReadsFrom beginning 1 text o → MatchBool t (o ≡ refused_at 1 91) (ReadsFrom beginning 1 text o)
  by true e k = absurd (cc)
  by false e k = k

pub stops_there : (T : Type 0) (r : Reading) (after : Reading) (line : ℕ) (bytes rest text : List ℕ) (item : Item) (stop : CoresLineFault)
    → SomeItems → ((items : List Item) → ItemsOf rest items → ItemsOf bytes (item ∷ items)) → ComesTo {T = T} (Err stop) after (Does r item)
    → ((o : FileOutcome) → ReadsFrom r line bytes o → ReadsFrom beginning 1 text o)
    → is_too_long text ≡ false → (number : ℕ) → stop ≡ Refused number → Reads text (refused_at line number)
stops_there T r after line bytes rest text item Memory some joins does whole short number e = absurd (cc)
stops_there T r after line bytes rest text item (Refused n) some joins does whole short number e =
    let same : n ≡ number = cc in
    let there = read_stop r line n bytes rest item some joins does in
    subst (λ (k : ℕ). Reads text (refused_at line k)) same (reads_by text (refused_at line n) short (whole (refused_at line n) there))

pub refused_there : (line : ℕ) (text : List ℕ) (stop : CoresLineFault) (result : Result CoresText AllocError)
    → ((number : ℕ) → stop ≡ Refused number → Reads text (refused_at line number))
    → IfOk result (λ t. (number : ℕ) × (stop ≡ Refused number) × (outcome_of t ≡ refused_at line number))
    → IfOk result (λ t. Reads text (outcome_of t))
refused_there line text stop (Err e) told h = tt
refused_there line text stop (Ok t) told h = subst (Reads text) (sym h.2) (told h.0 h.1)

-- what holds whatever comes
pub on_any : {X E : Type 0} (P : Type 0) (r : Result X E) → P → OnErr r P
on_any P (Ok x) h = tt
on_any P (Err e) h = h

pub read_to_end : (r : Reading) (line : ℕ) (rest text : List ℕ) → length rest ≡ 0
    → ((o : FileOutcome) → ReadsFrom r line rest o → ReadsFrom beginning 1 text o) → is_too_long text ≡ false → Reads text (is_file (file_of r))
read_to_end r line rest text none whole short = reads_by text (is_file (file_of r)) short (whole (is_file (file_of r)) (read_end r line rest none))

pub reads_file : (text : List ℕ) (file : CoresFile) (r : Reading) → file ≡ file_of r → Reads text (is_file (file_of r)) → Reads text (is_file file)
reads_file text file r e h = subst (λ (f : CoresFile). Reads text (is_file f)) (sym e) h

-- ---- the number of a line

short_text : (text : List ℕ) → is_too_long text ≡ false → length text ≤ 1048576
short_text text e = grind (arith, nat_tests, e)

pub line_more : (line lines : ℕ) (text bytes rest : List ℕ) (item : Item) → ((items : List Item) → ItemsOf bytes items → line + total items ≤ 1 + 2 * length text)
    → ((items : List Item) → ItemsOf rest items → ItemsOf bytes (item ∷ items)) → lines ≡ lines_in item
    → (items : List Item) → ItemsOf rest items → line + lines + total items ≤ 1 + 2 * length text
line_more line lines text bytes rest item most joins e items h = let k = most (item ∷ items) (joins items h) in omega (arith, k, e)

pub line_fits : (line lines : ℕ) (text bytes rest : List ℕ) (item : Item) → SomeItems → is_too_long text ≡ false
    → ((items : List Item) → ItemsOf bytes items → line + total items ≤ 1 + 2 * length text)
    → ((items : List Item) → ItemsOf rest items → ItemsOf bytes (item ∷ items)) → lines ≡ lines_in item → line + lines ≤ 2097153
line_fits line lines text bytes rest item some short most joins e =
    let h = some rest in
    let k = line_more line lines text bytes rest item most joins e h.0 h.1 in
    let s = short_text text short in
    omega (arith, k, s)

pub read_line : (r r2 : Reading) (line lines : ℕ) (bytes rest text : List ℕ) (item : Item) → ((o : FileOutcome) → ReadsFrom r line bytes o → ReadsFrom beginning 1 text o)
    → ((items : List Item) → ItemsOf rest items → ItemsOf bytes (item ∷ items)) → Does r item (goes_on r2) → lines ≡ lines_in item
    → (o : FileOutcome) → ReadsFrom r2 (line + lines) rest o → ReadsFrom beginning 1 text o
read_line r r2 line lines bytes rest text item whole joins does e o h =
    whole o (read_more r r2 line bytes rest item o joins does (subst (λ (n : ℕ). ReadsFrom r2 (line + n) rest o) e h))
