-- What is read of a line is what the grammar says, and nothing else is.
use Rattle.std.proofs.Common.{◌≡◌, ℕ, Bool, true, false, if◌then◌else◌, List, [], ◌∷◌, Option, Some, None, option_map, refl, sym, ap, subst, ◌∙◌}
use Rattle.std.specs.Prelude.{codes}
use Rattle.std.specs.Str.{bytes_eq}
use Rattle.std.proofs.lemmas.Slice.Eq.{bytes_eq-Decides}
use Rattle.std.proofs.lemmas.Bool.{false≢true}
use Rattle.fl_base.specs.Given.{given}
use Rattle.fl_value_data.specs.declared.value.PlanNo.{PlanNo}
use Rattle.fl_value_data.specs.declared.value.PlanNo.TheVariants.{One, Two}
use Rattle.fl_value.specs.CallText.{without_blanks}
use Rattle.fl_script_lines.specs.declared.command.Verb.{Verb}
use Rattle.fl_script_lines.specs.declared.command.Verb.TheVariants as verb
use Rattle.fl_script_lines.specs.Words.{first_word, behind_word, is_none, number_of, begins_comment, is_silent}
use Rattle.fl_script_lines.specs.Commands.{EndName, BackEnd, local, ump, hop, Command, cores, link, disp, export, bind, call, show, write, turn, ack, register, deregister, reply, mwrite, forward, mack, a_number, an_end, back_end_row as row_of_back_end}
use Rattle.fl_script_lines.specs.Grammar.{Holds, Spells, Heads, Line, silent, heading, command, unread, LineIs, OneLine}
use Rattle.fl_script_lines.specs.Words.{words_of, numbers_of}
use Rattle.fl_script_lines.specs.Reading.{end_of, name_then, at_last, one_number, two_numbers, one_end, link_row, disp_row, export_row, route_row, back_end_row, bind_row, call_row, turn_row, reply_row, verb_of, with_end, with_cores, command_by, line_with, heading_by, line_by, read_line}
use Rattle.fl_script_lines.proofs.PieceLemmas.{given_some, same_some, none_is, name_some, last_some, number_some, numbers_some, end_some, one_end_some, all_numbers, by_given, last_reads, name_reads, number_reads, numbers_read, end_reads, one_end_reads, numbers_stand}

-- ---- what is read is spelled

is_text : (a b : List ℕ) → bytes_eq a b ≡ true → a ≡ b
is_text a b = (bytes_eq-Decides a b).0

abbrev IsWordOf : Verb → List ℕ → Type 0
IsWordOf verb.Idl w = w ≡ codes "idl"
IsWordOf verb.Cores w = w ≡ codes "cores"
IsWordOf verb.Link w = w ≡ codes "link"
IsWordOf verb.Disp w = w ≡ codes "disp"
IsWordOf verb.Export w = w ≡ codes "export"
IsWordOf verb.Bind w = w ≡ codes "bind"
IsWordOf verb.Call w = w ≡ codes "call"
IsWordOf verb.Show w = w ≡ codes "show"
IsWordOf verb.Write w = w ≡ codes "write"
IsWordOf verb.Turn w = w ≡ codes "turn"
IsWordOf verb.Ack w = w ≡ codes "ack"
IsWordOf verb.Register w = w ≡ codes "register"
IsWordOf verb.Deregister w = w ≡ codes "deregister"
IsWordOf verb.Reply w = w ≡ codes "reply"
IsWordOf verb.Mwrite w = w ≡ codes "mwrite"
IsWordOf verb.Forward w = w ≡ codes "forward"
IsWordOf verb.Mack w = w ≡ codes "mack"
IsWordOf verb.Unknown w = Unit {0}

word_first : (w : List ℕ) (v r : Verb) (b : Bool) → (b ≡ true → IsWordOf v w) → IsWordOf r w → IsWordOf (if b then v else r) w
word_first w v r true f g = f refl
word_first w v r false f g = g

word_is : (w : List ℕ) → IsWordOf (verb_of w) w
word_is w =
    word_first w verb.Call _ (bytes_eq w (codes "call")) (is_text w (codes "call"))
    (word_first w verb.Write _ (bytes_eq w (codes "write")) (is_text w (codes "write"))
    (word_first w verb.Turn _ (bytes_eq w (codes "turn")) (is_text w (codes "turn"))
    (word_first w verb.Ack _ (bytes_eq w (codes "ack")) (is_text w (codes "ack"))
    (word_first w verb.Forward _ (bytes_eq w (codes "forward")) (is_text w (codes "forward"))
    (word_first w verb.Mack _ (bytes_eq w (codes "mack")) (is_text w (codes "mack"))
    (word_first w verb.Mwrite _ (bytes_eq w (codes "mwrite")) (is_text w (codes "mwrite"))
    (word_first w verb.Show _ (bytes_eq w (codes "show")) (is_text w (codes "show"))
    (word_first w verb.Bind _ (bytes_eq w (codes "bind")) (is_text w (codes "bind"))
    (word_first w verb.Disp _ (bytes_eq w (codes "disp")) (is_text w (codes "disp"))
    (word_first w verb.Export _ (bytes_eq w (codes "export")) (is_text w (codes "export"))
    (word_first w verb.Link _ (bytes_eq w (codes "link")) (is_text w (codes "link"))
    (word_first w verb.Cores _ (bytes_eq w (codes "cores")) (is_text w (codes "cores"))
    (word_first w verb.Register _ (bytes_eq w (codes "register")) (is_text w (codes "register"))
    (word_first w verb.Deregister _ (bytes_eq w (codes "deregister")) (is_text w (codes "deregister"))
    (word_first w verb.Reply _ (bytes_eq w (codes "reply")) (is_text w (codes "reply"))
    (word_first w verb.Idl verb.Unknown (bytes_eq w (codes "idl")) (is_text w (codes "idl")) tt))))))))))))))))

-- a row whose last step gives this command
row : {X : Type 0} (o : Option X) (f : X → Command) (c : Command) (P : Command → Type 0) → ((x : X) → o ≡ Some x → P (f x)) → given o None (λ x. Some (f x)) ≡ Some c → P c
row o f c P h e =
    let (x, there, same) = given_some o (λ x. Some (f x)) c e in subst P (same_some (f x) c same) (h x there)

last : (line : List ℕ) (d c : Command) (P : Command → Type 0) → (first_word line ≡ [] → P d) → at_last line d ≡ Some c → P c
last line d c P h e = let k = last_some line d c e in subst P k.1 (h k.0)

spelled_link : (line : List ℕ) (c : Command) → first_word line ≡ codes "link" → link_row (behind_word line) ≡ Some c → Spells line c
spelled_link line c w e =
    let r = behind_word line in
    let (a, h, rest) = given_some (number_of (first_word r)) (λ a. given (two_numbers (behind_word r)) None λ p. Some (link a p.0 p.1)) c e in
    row (two_numbers (behind_word r)) (λ p. link a p.0 p.1) c (Spells line) (λ p k. (w, (h, numbers_some (behind_word r) p k))) rest

spelled_disp : (line : List ℕ) (c : Command) → first_word line ≡ codes "disp" → disp_row (behind_word line) ≡ Some c → Spells line c
spelled_disp line c w e =
    let r = behind_word line in
    let (name, rest) = name_some r (λ d s. given (one_number s) None λ core. Some (disp d core)) c e in
    row (one_number (behind_word r)) (λ core. disp (first_word r) core) c (Spells line) (λ n k. (w, (refl, name, number_some (behind_word r) n k))) rest

spelled_export : (line : List ℕ) (c : Command) → first_word line ≡ codes "export" → export_row (behind_word line) ≡ Some c → Spells line c
spelled_export line c w e =
    let r = behind_word line in
    let t = behind_word r in
    let u = behind_word t in
    let (one, rest) = name_some r (λ s a. name_then a λ d b. name_then b λ i z. at_last z (export s d i)) c e in
    let (two, more) = name_some t (λ d b. name_then b λ i z. at_last z (export (first_word r) d i)) c rest in
    let (three, end) = name_some u (λ i z. at_last z (export (first_word r) (first_word t) i)) c more in
    last (behind_word u) (export (first_word r) (first_word t) (first_word u)) c (Spells line) (λ none. (w, (refl, one, (refl, two, (refl, three, none))))) end

spelled_route : (line : List ℕ) (b : BackEnd) → first_word line ≡ codes "hop" → route_row (behind_word line) ≡ Some b → Holds (row_of_back_end b) line
spelled_route line b w e =
    let r = behind_word line in
    let (first, h, rest) = given_some (number_of (first_word r)) (λ first. option_map (hop first) (numbers_of (words_of (behind_word r)))) b e in
    others (numbers_of (words_of (behind_word r))) refl first h rest
  where
    others : (o : Option (List ℕ)) → numbers_of (words_of (behind_word (behind_word line))) ≡ o → (first : ℕ) → number_of (first_word (behind_word line)) ≡ Some first → option_map (hop first) o ≡ Some b
        → Holds (row_of_back_end b) line
    others None k first h same = cc
    others (Some ns) k first h same =
        subst (λ (x : BackEnd). Holds (row_of_back_end x) line) (same_some (hop first ns) b same) (w, (h, all_numbers ns (behind_word (behind_word line)) k))

kinds : (line : List ℕ) (b : BackEnd) (l u h : Bool) → bytes_eq (first_word line) (codes "local") ≡ l → bytes_eq (first_word line) (codes "ump") ≡ u → bytes_eq (first_word line) (codes "hop") ≡ h
    → (if l then given (one_number (behind_word line)) None (λ n. Some (local n)) else if u then given (one_number (behind_word line)) None (λ n. Some (ump n)) else if h then route_row (behind_word line) else None) ≡ Some b
    → Holds (row_of_back_end b) line
kinds line b true u h is_l is_u is_h e =
    let (n, k, same) = given_some (one_number (behind_word line)) (λ n. Some (local n)) b e in
    subst (λ (x : BackEnd). Holds (row_of_back_end x) line) (same_some (local n) b same) (is_text _ _ is_l, number_some (behind_word line) n k)
kinds line b false true h is_l is_u is_h e =
    let (n, k, same) = given_some (one_number (behind_word line)) (λ n. Some (ump n)) b e in
    subst (λ (x : BackEnd). Holds (row_of_back_end x) line) (same_some (ump n) b same) (is_text _ _ is_u, number_some (behind_word line) n k)
kinds line b false false true is_l is_u is_h e = spelled_route line b (is_text _ _ is_h) e
kinds line b false false false is_l is_u is_h e = cc

spelled_back_end : (line : List ℕ) (b : BackEnd) → back_end_row line ≡ Some b → Holds (row_of_back_end b) line
spelled_back_end line b e = kinds line b _ _ _ refl refl refl e

spelled_bind : (line : List ℕ) (c : Command) → first_word line ≡ codes "bind" → bind_row (behind_word line) ≡ Some c → Spells line c
spelled_bind line c w e =
    let p = behind_word line in
    let d = behind_word p in
    let i = behind_word d in
    let s = behind_word i in
    let back : List ℕ → List ℕ → List ℕ → List ℕ → List ℕ → Option Command = λ p d i s z. given (back_end_row z) None λ b. Some (bind p d i s b) in
    let (one, a) = name_some p (λ p a. name_then a λ d b. name_then b λ i c. name_then c λ s z. back p d i s z) c e in
    let (two, b) = name_some d (λ d b. name_then b λ i c. name_then c λ s z. back (first_word p) d i s z) c a in
    let (three, f) = name_some i (λ i c. name_then c λ s z. back (first_word p) (first_word d) i s z) c b in
    let (four, g) = name_some s (λ s z. back (first_word p) (first_word d) (first_word i) s z) c f in
    row (back_end_row (behind_word s)) (λ x. bind (first_word p) (first_word d) (first_word i) (first_word s) x) c (Spells line)
    (λ x k. (w, (refl, one, (refl, two, (refl, three, (refl, four, spelled_back_end (behind_word s) x k)))))) g

spelled_call : (line : List ℕ) (c : Command) → first_word line ≡ codes "call" → call_row (behind_word line) ≡ Some c → Spells line c
spelled_call line c w e =
    let r = behind_word line in
    row (end_of (first_word r)) (λ x. call x (without_blanks (behind_word r))) c (Spells line)
    (λ x k. let h = end_some (first_word r) x k in (w, (h.0, h.1, refl))) e

spelled_turn : (line : List ℕ) (c : Command) → first_word line ≡ codes "turn" → turn_row (behind_word line) ≡ Some c → Spells line c
spelled_turn line c w e =
    let r = behind_word line in
    let (name, rest) = name_some r (λ d z. at_last z (turn d)) c e in
    last (behind_word r) (turn (first_word r)) c (Spells line) (λ none. (w, (refl, name, none))) rest

spelled_reply : (line : List ℕ) (c : Command) → first_word line ≡ codes "reply" → reply_row (behind_word line) ≡ Some c → Spells line c
spelled_reply line c w e =
    let r = behind_word line in
    let m = behind_word r in
    let n = behind_word m in
    let (x, k, rest) = given_some (end_of (first_word r)) (λ x. name_then m λ a t. name_then t λ b z. at_last z (reply x a b)) c e in
    let h = end_some (first_word r) x k in
    let (one, more) = name_some m (λ a t. name_then t λ b z. at_last z (reply x a b)) c rest in
    let (two, end) = name_some n (λ b z. at_last z (reply x (first_word m) b)) c more in
    last (behind_word n) (reply x (first_word m) (first_word n)) c (Spells line) (λ none. (w, (h.0, h.1, (refl, one, (refl, two, none))))) end

-- the rows of an end alone, of a number alone, of two cores
end_row : (line : List ℕ) (f : EndName → Command) (c : Command) → ((e : EndName) → one_end (behind_word line) ≡ Some e → Spells line (f e)) → with_end f (behind_word line) ≡ Some c → Spells line c
end_row line f c h e = row (one_end (behind_word line)) f c (Spells line) h e

cores_row : (line : List ℕ) (f : ℕ → ℕ → Command) (c : Command) → ((p : ℕ × ℕ) → two_numbers (behind_word line) ≡ Some p → Spells line (f p.0 p.1)) → with_cores f (behind_word line) ≡ Some c → Spells line c
cores_row line f c h e = row (two_numbers (behind_word line)) (λ p. f p.0 p.1) c (Spells line) h e

spelled : (v : Verb) (line : List ℕ) (c : Command) → IsWordOf v (first_word line) → command_by v (behind_word line) ≡ Some c → Spells line c
spelled verb.Idl line c w e = cc
spelled verb.Cores line c w e = row (one_number (behind_word line)) (λ n. cores n) c (Spells line) (λ n k. (w, number_some (behind_word line) n k)) e
spelled verb.Link line c w e = spelled_link line c w e
spelled verb.Disp line c w e = spelled_disp line c w e
spelled verb.Export line c w e = spelled_export line c w e
spelled verb.Bind line c w e = spelled_bind line c w e
spelled verb.Call line c w e = spelled_call line c w e
spelled verb.Show line c w e = end_row line show c (λ x k. (w, one_end_some (behind_word line) x k)) e
spelled verb.Write line c w e = end_row line write c (λ x k. (w, one_end_some (behind_word line) x k)) e
spelled verb.Turn line c w e = spelled_turn line c w e
spelled verb.Ack line c w e = end_row line ack c (λ x k. (w, one_end_some (behind_word line) x k)) e
spelled verb.Register line c w e = end_row line register c (λ x k. (w, one_end_some (behind_word line) x k)) e
spelled verb.Deregister line c w e = end_row line deregister c (λ x k. (w, one_end_some (behind_word line) x k)) e
spelled verb.Reply line c w e = spelled_reply line c w e
spelled verb.Mwrite line c w e = cores_row line mwrite c (λ p k. (w, numbers_some (behind_word line) p k)) e
spelled verb.Forward line c w e = cores_row line forward c (λ p k. (w, numbers_some (behind_word line) p k)) e
spelled verb.Mack line c w e = cores_row line mack c (λ p k. (w, numbers_some (behind_word line) p k)) e
spelled verb.Unknown line c w e = cc

-- ---- what is spelled is read

with_word : (line word : List ℕ) → first_word line ≡ word → read_line line ≡ (if begins_comment word then silent else line_by (verb_of word) (behind_word line))
with_word line word e = ap (λ (x : List ℕ). if begins_comment x then silent else line_by (verb_of x) (behind_word line)) e

read_end : (line : List ℕ) (f : EndName → Command) (e : EndName) → Holds (an_end e ∷ []) (behind_word line) → with_end f (behind_word line) ≡ Some (f e)
read_end line f e h = by_given (one_end (behind_word line)) e (λ x. Some (f x)) (one_end_reads (behind_word line) e h)

read_cores : (line : List ℕ) (f : ℕ → ℕ → Command) (a b : ℕ) → Holds (a_number a ∷ a_number b ∷ []) (behind_word line) → with_cores f (behind_word line) ≡ Some (f a b)
read_cores line f a b h = by_given (two_numbers (behind_word line)) (a, b) (λ p. Some (f p.0 p.1)) (numbers_read (behind_word line) a b h)

with_kind : (line word : List ℕ) → first_word line ≡ word → back_end_row line ≡ (if bytes_eq word (codes "local") then given (one_number (behind_word line)) None (λ n. Some (local n)) else if bytes_eq word (codes "ump") then given (one_number (behind_word line)) None (λ n. Some (ump n)) else if bytes_eq word (codes "hop") then route_row (behind_word line) else None)
with_kind line word e = ap (λ (x : List ℕ). if bytes_eq x (codes "local") then given (one_number (behind_word line)) None (λ n. Some (local n)) else if bytes_eq x (codes "ump") then given (one_number (behind_word line)) None (λ n. Some (ump n)) else if bytes_eq x (codes "hop") then route_row (behind_word line) else None) e

read_back_end : (line : List ℕ) (b : BackEnd) → Holds (row_of_back_end b) line → back_end_row line ≡ Some b
read_back_end line (local n) h =
    with_kind line (codes "local") h.0 ∙ by_given (one_number (behind_word line)) n (λ n. Some (local n)) (number_reads (behind_word line) n h.1)
read_back_end line (ump n) h =
    with_kind line (codes "ump") h.0 ∙ by_given (one_number (behind_word line)) n (λ n. Some (ump n)) (number_reads (behind_word line) n h.1)
read_back_end line (hop first others) h =
    let r = behind_word line in
    with_kind line (codes "hop") h.0
    ∙ (by_given (number_of (first_word r)) first (λ m. option_map (hop m) (numbers_of (words_of (behind_word r)))) h.1.0
    ∙ ap (option_map (hop first)) (numbers_stand others (behind_word r) h.1.1))

pub reads : (line : List ℕ) (c : Command) → Spells line c → read_line line ≡ command c
reads line (cores n) h =
    with_word line (codes "cores") h.0 ∙ ap line_with (by_given (one_number (behind_word line)) n (λ n. Some (cores n)) (number_reads (behind_word line) n h.1))
reads line (link a b slots) h =
    let r = behind_word line in
    with_word line (codes "link") h.0
    ∙ ap line_with (by_given (number_of (first_word r)) a (λ a. given (two_numbers (behind_word r)) None λ p. Some (link a p.0 p.1)) h.1.0
    ∙ by_given (two_numbers (behind_word r)) (b, slots) (λ p. Some (link a p.0 p.1)) (numbers_read (behind_word r) b slots h.1.1))
reads line (disp d n) h =
    let r = behind_word line in
    with_word line (codes "disp") h.0
    ∙ ap line_with (name_reads r d (λ d s. given (one_number s) None λ core. Some (disp d core)) h.1.0 h.1.1
    ∙ by_given (one_number (behind_word r)) n (λ core. Some (disp d core)) (number_reads (behind_word r) n h.1.2))
reads line (export s d i) h =
    let r = behind_word line in
    let k = h.1 in
    with_word line (codes "export") h.0
    ∙ ap line_with (name_reads r s (λ s a. name_then a λ d b. name_then b λ i z. at_last z (export s d i)) k.0 k.1
    ∙ (name_reads (behind_word r) d (λ d b. name_then b λ i z. at_last z (export s d i)) k.2.0 k.2.1
    ∙ (name_reads (behind_word (behind_word r)) i (λ i z. at_last z (export s d i)) k.2.2.0 k.2.2.1
    ∙ last_reads (behind_word (behind_word (behind_word r))) (export s d i) k.2.2.2)))
reads line (bind p d i s b) h =
    let x = behind_word line in
    let k = h.1 in
    let back : List ℕ → List ℕ → List ℕ → List ℕ → List ℕ → Option Command = λ p d i s z. given (back_end_row z) None λ b. Some (bind p d i s b) in
    with_word line (codes "bind") h.0
    ∙ ap line_with (name_reads x p (λ p a. name_then a λ d b. name_then b λ i c. name_then c λ s z. back p d i s z) k.0 k.1
    ∙ (name_reads (behind_word x) d (λ d b. name_then b λ i c. name_then c λ s z. back p d i s z) k.2.0 k.2.1
    ∙ (name_reads (behind_word (behind_word x)) i (λ i c. name_then c λ s z. back p d i s z) k.2.2.0 k.2.2.1
    ∙ (name_reads (behind_word (behind_word (behind_word x))) s (λ s z. back p d i s z) k.2.2.2.0 k.2.2.2.1
    ∙ by_given (back_end_row (behind_word (behind_word (behind_word (behind_word x))))) b (λ b. Some (bind p d i s b)) (read_back_end (behind_word (behind_word (behind_word (behind_word x)))) b k.2.2.2.2)))))
reads line (call e text) h =
    let r = behind_word line in
    with_word line (codes "call") h.0
    ∙ ap line_with (by_given (end_of (first_word r)) e (λ x. Some (call x (without_blanks (behind_word r)))) (ap end_of h.1.0 ∙ end_reads e h.1.1)
    ∙ ap (λ (t : List ℕ). Some (call e t)) h.1.2)
reads line (show e) h = with_word line (codes "show") h.0 ∙ ap line_with (read_end line show e h.1)
reads line (write e) h = with_word line (codes "write") h.0 ∙ ap line_with (read_end line write e h.1)
reads line (turn d) h =
    let r = behind_word line in
    with_word line (codes "turn") h.0
    ∙ ap line_with (name_reads r d (λ d z. at_last z (turn d)) h.1.0 h.1.1 ∙ last_reads (behind_word r) (turn d) h.1.2)
reads line (ack e) h = with_word line (codes "ack") h.0 ∙ ap line_with (read_end line ack e h.1)
reads line (register e) h = with_word line (codes "register") h.0 ∙ ap line_with (read_end line register e h.1)
reads line (deregister e) h = with_word line (codes "deregister") h.0 ∙ ap line_with (read_end line deregister e h.1)
reads line (reply e m n) h =
    let r = behind_word line in
    let k = h.1 in
    with_word line (codes "reply") h.0
    ∙ ap line_with (by_given (end_of (first_word r)) e (λ x. name_then (behind_word r) λ a t. name_then t λ b z. at_last z (reply x a b)) (ap end_of k.0 ∙ end_reads e k.1)
    ∙ (name_reads (behind_word r) m (λ a t. name_then t λ b z. at_last z (reply e a b)) k.2.0 k.2.1
    ∙ (name_reads (behind_word (behind_word r)) n (λ b z. at_last z (reply e m b)) k.2.2.0 k.2.2.1
    ∙ last_reads (behind_word (behind_word (behind_word r))) (reply e m n) k.2.2.2)))
reads line (mwrite a b) h = with_word line (codes "mwrite") h.0 ∙ ap line_with (read_cores line mwrite a b h.1)
reads line (forward a b) h = with_word line (codes "forward") h.0 ∙ ap line_with (read_cores line forward a b h.1)
reads line (mack a b) h = with_word line (codes "mack") h.0 ∙ ap line_with (read_cores line mack a b h.1)

with_plan : (rest word : List ℕ) → first_word rest ≡ word
    → heading_by rest ≡ (if is_none word then heading Two else if bytes_eq word (codes "1") then (if is_none (first_word (behind_word rest)) then heading One else unread) else unread)
with_plan rest word e = ap (λ (x : List ℕ). if is_none x then heading Two else if bytes_eq x (codes "1") then (if is_none (first_word (behind_word rest)) then heading One else unread) else unread) e

pub heads : (line : List ℕ) (plan : PlanNo) → Heads line plan → read_line line ≡ heading plan
heads line Two h = with_word line (codes "idl") h.0 ∙ with_plan (behind_word line) [] h.1
heads line One h =
    with_word line (codes "idl") h.0
    ∙ (with_plan (behind_word line) (codes "1") h.1.0
    ∙ ap (λ (x : List ℕ). if is_none x then heading One else unread) h.1.1)

-- ---- a line is what is read of it

pub unread_at : (line : List ℕ) → is_silent line ≡ false → read_line line ≡ unread → LineIs line unread
unread_at line loud e =
    (loud, (λ plan h. absurd (cc_heading plan (sym (heads line plan h) ∙ e))), (λ c h. absurd (cc_command c (sym (reads line c h) ∙ e))))
  where
    cc_heading : (plan : PlanNo) → heading plan ≡ unread → ⊥
    cc_heading plan e = cc

    cc_command : (c : Command) → command c ≡ unread → ⊥
    cc_command c e = cc

heading_is : (line : List ℕ) (none one last : Bool) → first_word line ≡ codes "idl" → is_silent line ≡ false
    → is_none (first_word (behind_word line)) ≡ none → bytes_eq (first_word (behind_word line)) (codes "1") ≡ one → is_none (first_word (behind_word (behind_word line))) ≡ last
    → read_line line ≡ (if none then heading Two else if one then (if last then heading One else unread) else unread)
    → LineIs line (if none then heading Two else if one then (if last then heading One else unread) else unread)
heading_is line true one last w loud a b c e = (w, none_is (first_word (behind_word line)) a)
heading_is line false true true w loud a b c e = (w, (is_text _ _ b, none_is (first_word (behind_word (behind_word line))) c))
heading_is line false true false w loud a b c e = unread_at line loud e
heading_is line false false last w loud a b c e = unread_at line loud e

command_is : (line : List ℕ) (v : Verb) (o : Option Command) → IsWordOf v (first_word line) → is_silent line ≡ false → command_by v (behind_word line) ≡ o
    → read_line line ≡ line_with o → LineIs line (line_with o)
command_is line v None w loud k e = unread_at line loud e
command_is line v (Some c) w loud k e = spelled v line c w k

by_verb : (line : List ℕ) (v : Verb) → IsWordOf v (first_word line) → is_silent line ≡ false → read_line line ≡ line_by v (behind_word line) → LineIs line (line_by v (behind_word line))
by_verb line verb.Idl w loud e = heading_is line _ _ _ w loud refl refl refl e
by_verb line verb.Cores w loud e = command_is line verb.Cores _ w loud refl e
by_verb line verb.Link w loud e = command_is line verb.Link _ w loud refl e
by_verb line verb.Disp w loud e = command_is line verb.Disp _ w loud refl e
by_verb line verb.Export w loud e = command_is line verb.Export _ w loud refl e
by_verb line verb.Bind w loud e = command_is line verb.Bind _ w loud refl e
by_verb line verb.Call w loud e = command_is line verb.Call _ w loud refl e
by_verb line verb.Show w loud e = command_is line verb.Show _ w loud refl e
by_verb line verb.Write w loud e = command_is line verb.Write _ w loud refl e
by_verb line verb.Turn w loud e = command_is line verb.Turn _ w loud refl e
by_verb line verb.Ack w loud e = command_is line verb.Ack _ w loud refl e
by_verb line verb.Register w loud e = command_is line verb.Register _ w loud refl e
by_verb line verb.Deregister w loud e = command_is line verb.Deregister _ w loud refl e
by_verb line verb.Reply w loud e = command_is line verb.Reply _ w loud refl e
by_verb line verb.Mwrite w loud e = command_is line verb.Mwrite _ w loud refl e
by_verb line verb.Forward w loud e = command_is line verb.Forward _ w loud refl e
by_verb line verb.Mack w loud e = command_is line verb.Mack _ w loud refl e
by_verb line verb.Unknown w loud e = command_is line verb.Unknown _ w loud refl e

by_comment : (line : List ℕ) (b : Bool) → begins_comment (first_word line) ≡ b → LineIs line (if b then silent else line_by (verb_of (first_word line)) (behind_word line))
by_comment line true e = e
by_comment line false e =
    by_verb line (verb_of (first_word line)) (word_is (first_word line)) e
    (ap (λ (b : Bool). if b then silent else line_by (verb_of (first_word line)) (behind_word line)) e)

pub line_is_read : (line : List ℕ) → LineIs line (read_line line)
line_is_read line = by_comment line _ refl

unread_alone : (line : List ℕ) (x : Line) → LineIs line x → LineIs line unread → x ≡ unread
unread_alone line silent h none = absurd (false≢true (sym none.0 ∙ h))
unread_alone line (heading plan) h none = absurd (none.1 plan h)
unread_alone line (command c) h none = absurd (none.2 c h)
unread_alone line unread h none = refl

pub read_is : (line : List ℕ) (x : Line) → LineIs line x → read_line line ≡ x
read_is line silent h = ap (λ (b : Bool). if b then silent else line_by (verb_of (first_word line)) (behind_word line)) h
read_is line (heading plan) h = heads line plan h
read_is line (command c) h = reads line c h
read_is line unread h = unread_alone line (read_line line) (line_is_read line) h

pub one_line_is : OneLine
one_line_is line x y h k = sym (read_is line x h) ∙ read_is line y k
