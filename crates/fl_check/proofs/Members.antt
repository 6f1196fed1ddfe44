-- The enumerators before one, and the same names sorted.
use Rattle.std.proofs.Common.{◌≡◌, ◌<◌, ℕ, ◌+◌, List, [], ◌∷◌, ◌++◌, map, take, length, get_or, None, sym, ap, ◌∙◌, subst}
use Rattle.std.proofs.lemmas.List.{take_more, map_push}
use Rattle.fl_parse.specs.declared.tree.Name.{Name}
use Rattle.fl_interface.specs.Limits.{is_among}
use Rattle.fl_check.specs.Places.{other_place}
use Rattle.fl_check.specs.Checks.{first_fault}
use Rattle.fl_check.specs.Faults.{Tells}
use Rattle.fl_check.specs.Views.{HaveSame}
use Rattle.fl_check.specs.declared.fault.CheckFault.{CheckFault}
use Rattle.fl_check.proofs.SortedNames.{same_then}
use Rattle.fl_check.proofs.Lists.{member_here, after_member}

-- the names of the first i
abbrev pub before : List Name → ℕ → List (List ℕ)
before ms i = map (λ (m : Name). m.text.now) (take i ms)

pub before_more : (ms : List Name) (i : ℕ) (m d : Name) → i < length ms → m ≡ get_or ms i d → before ms (i + 1) ≡ after_member (before ms i) m
before_more ms i m d h q =
    ap (map (λ (m : Name). m.text.now)) (take_more ms i d h)
    ∙ map_push (λ (m : Name). m.text.now) (take i ms) (get_or ms i d)
    ∙ ap (λ (m : Name). before ms i ++ m.text.now ∷ []) (sym q)

-- the place of an enumerator depends on which names stand before it, in whatever order
here_same : (ns os : List (List ℕ)) (m : Name) → HaveSame ns os → member_here ns m ≡ member_here os m
unfolding other_place
here_same ns os m h = let same = h m.text.now in cc

pub here_sound : (ns os : List (List ℕ)) (m : Name) → HaveSame ns os → first_fault (member_here ns m) ≡ None → first_fault (member_here os m) ≡ None
here_sound ns os m h sound = sym (ap first_fault (here_same ns os m h)) ∙ sound

pub here_fault : (ns os : List (List ℕ)) (m : Name) (e : CheckFault) → HaveSame ns os → Tells e (first_fault (member_here ns m)) → Tells e (first_fault (member_here os m))
here_fault ns os m e h told = subst (λ ps. Tells e (first_fault ps)) (here_same ns os m h) told

pub same_before : (ns more : List (List ℕ)) (ms : List Name) (i : ℕ) (m d : Name) → i < length ms → m ≡ get_or ms i d → HaveSame ns (before ms i)
    → HaveSame more (after_member ns m) → HaveSame more (before ms (i + 1))
same_before ns more ms i m d h q same added =
    λ n. added n ∙ same_then ns (before ms i) m.text.now same n ∙ sym (ap (λ l. is_among l n) (before_more ms i m d h q))
