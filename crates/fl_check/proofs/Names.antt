-- The names of an rpc's two messages are words of at most 64 bytes, and so are those of all messages that the checker keeps.
use Rattle.std.proofs.Common.{◌≡◌, ℕ, ◌+◌, ◌≤◌, Bool, true, false, cond, List, [], ◌∷◌, ◌++◌, length, length-append, nat_le, codes, refl, ap, ◌∙◌, arith}
use Rattle.std.specs.List.{list_all}
use Rattle.std.specs.Cmp.{first_so, second_so}
use Rattle.std.proofs.lemmas.Bool.{le-leb}
use Rattle.std.proofs.lemmas.List.Folds.{list_all-append}
use Rattle.fl_lex.specs.Words.{is_letter, is_word_byte, is_word, is_name}
use Rattle.fl_lex.proofs.Classes.{both}
use Rattle.fl_parse.specs.Tree.{TheName}
use Rattle.std.specs.Global.{Vec}
use Rattle.std.specs.Prelude.{Result, Ok, Err, OnOk, OnErr}
use Rattle.indexmap.specs.IndexMap.{insert_entry}
use Rattle.fl_interface.specs.declared.interface.ArgType.{ArgType}
use Rattle.fl_check.specs.Known.{call_name, response_name}
use Rattle.fl_check.specs.Named.{is_named}

longer_word : (prefix more : List ℕ) → is_word prefix ≡ true → list_all is_word_byte more ≡ true → is_word (prefix ++ more) ≡ true
longer_word [] more w h = absurd cc
longer_word (c ∷ prefix) more w h =
    let all : list_all is_word_byte (prefix ++ more) ≡ true =
    list_all-append is_word_byte prefix more ∙ both (list_all is_word_byte prefix) (list_all is_word_byte more) (second_so (is_letter c) (list_all is_word_byte prefix) w) h in
    both (is_letter c) (list_all is_word_byte (prefix ++ more)) (first_so (is_letter c) (list_all is_word_byte prefix) w) all

longer_name : (prefix more : List ℕ) → is_name prefix ≡ true → list_all is_word_byte more ≡ true → length prefix + length more ≤ 64 → is_name (prefix ++ more) ≡ true
longer_name prefix more n h few =
    both (nat_le (length (prefix ++ more)) 64) (is_word (prefix ++ more)) (le-leb (length (prefix ++ more)) 64 (omega (arith, few, length-append prefix more)))
    (longer_word prefix more (second_so (nat_le (length prefix) 64) (is_word prefix) n) h)

pub call_named : (name : TheName) → is_name name.text ≡ true → length name.text ≤ 55 → is_name (call_name name) ≡ true
call_named name h few = longer_name name.text (codes "_call") h refl (omega (arith, few))

pub response_named : (name : TheName) → is_name name.text ≡ true → length name.text ≤ 55 → is_name (response_name name) ≡ true
response_named name h few = longer_name name.text (codes "_response") h refl (omega (arith, few))

-- as the code has them
pub rpc_named : (name : TheName) (call response : List ℕ) → is_name name.text ≡ true → length name.text ≤ 55 → call ≡ call_name name → response ≡ response_name name
    → (is_name call ≡ true) × (is_name response ≡ true)
rpc_named name call response h few c r = (ap is_name c ∙ call_named name h few, ap is_name r ∙ response_named name h few)

-- ---- the messages that are kept, by name

named_by : (b : Bool) (eq : Vec ℕ → Vec ℕ → Bool) (e : Vec ℕ × Vec ArgType) (es : List (Vec ℕ × Vec ArgType)) (k : Vec ℕ) (v : Vec ArgType) → list_all is_named (e ∷ es) ≡ true
    → list_all is_named (insert_entry eq es k v) ≡ true → list_all is_named (cond b ((e.0, v) ∷ es) (e ∷ insert_entry eq es k v)) ≡ true
named_by true eq e es k v h rest = h
named_by false eq e es k v h rest = both (is_named e) (list_all is_named (insert_entry eq es k v)) (first_so (is_named e) (list_all is_named es) h) rest

pub insert_named : (eq : Vec ℕ → Vec ℕ → Bool) (es : List (Vec ℕ × Vec ArgType)) (k : Vec ℕ) (v : Vec ArgType) → list_all is_named es ≡ true → is_name k.items ≡ true
    → list_all is_named (insert_entry eq es k v) ≡ true
insert_named eq [] k v h n = both (is_name k.items) true n refl
insert_named eq (e ∷ es) k v h n = named_by (eq k e.0) eq e es k v h (insert_named eq es k v (second_so (is_named e) (list_all is_named es) h) n)

-- whether the message was kept or memory ran out for it
pub kept_named : {T E : Type 0} (r : Result T E) (old new made : List (Vec ℕ × Vec ArgType)) → OnOk r (new ≡ made) → OnErr r (new ≡ old) → list_all is_named old ≡ true
    → list_all is_named made ≡ true → list_all is_named new ≡ true
kept_named (Ok x) old new made ok err h m = ap (list_all is_named) ok ∙ m
kept_named (Err e) old new made ok err h m = ap (list_all is_named) err ∙ h
