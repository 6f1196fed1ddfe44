-- A header's parts: what stands so far, whatever is to follow.
use Rattle.std.proofs.Common.{◌≡◌, ℕ, ◌+◌, List, [], ◌∷◌, ◌++◌, refl, sym, ap, ◌∙◌, subst}
use Rattle.std.proofs.lemmas.List.{append_assoc, append-nil}
use Rattle.std.specs.Fmt.{decimal}
use Rattle.fl_interface.specs.Interface.{TheMessage, TheInterface}
use Rattle.fl_value_data.specs.declared.value.PlanNo.{PlanNo}
use Rattle.fl_layout.specs.Layouts.{tape_length, IsGreatest}
use Rattle.flounder_header.specs.Header.{IsHeader, IsSection, AreSections, message_name, preface, plan_text, struct_text, section_text}

pub prefaced : (plan : PlanNo) (name spelled digit text : List ℕ) → spelled ≡ name → digit ≡ plan_text plan → text ≡ preface spelled digit → text ≡ preface name (plan_text plan)
prefaced plan name spelled digit text n d e = e ∙ (ap (λ (z : List ℕ). preface z digit) n ∙ ap (λ (z : List ℕ). preface name z) d)

pub headed : (plan q : PlanNo) (i j : TheInterface) (text : List ℕ) → q ≡ plan → j ≡ i → IsHeader q j text → IsHeader plan i text
headed plan q i j text e d h = subst (λ (p : PlanNo). IsHeader p i text) e (subst (λ (x : TheInterface). IsHeader q x text) d h)

pub with_digits : (name : List ℕ) (number most : ℕ) (digits digits_of_most members text : List ℕ) → digits ≡ decimal number → digits_of_most ≡ decimal most
    → text ≡ struct_text name digits members digits_of_most → text ≡ struct_text name (decimal number) members (decimal most)
with_digits name number most digits digits_of_most members text d m e =
    e ∙ (ap (λ (z : List ℕ). struct_text name z members digits_of_most) d ∙ ap (λ (z : List ℕ). struct_text name (decimal number) members z) m)

-- three texts, one behind another, each of which is known
pub three : (a b c x y z text : List ℕ) → a ≡ x → b ≡ y → c ≡ z → text ≡ a ++ (b ++ (c ++ [])) → text ≡ x ++ (y ++ (z ++ []))
three a b c x y z text p q r e = cc

pub declared : (plan : PlanNo) (i : TheInterface) (msg : ℕ) (m : TheMessage) (most : ℕ) (name members puts gets text : List ℕ) → IsGreatest (tape_length plan i) i msg most
    → name ≡ message_name i.name m.name → text ≡ section_text name (decimal msg) members (decimal most) puts gets → IsSection plan i msg m text
declared plan i msg m most name members puts gets text g n e = record {
  members = members;
  most = most;
  is_most = g;
  puts = puts;
  gets = gets;
  spelled = e ∙ ap (λ (z : List ℕ). section_text z (decimal msg) members (decimal most) puts gets) n;
}

-- with the declarations of those left behind it, the text is that of all
pub record SoFar (plan : PlanNo) (i : TheInterface) (all : List TheMessage) (number : ℕ) (left : List TheMessage) (text : List ℕ) : Type 0 where
  pub rest : (more : List ℕ) → AreSections plan i number left more → AreSections plan i 0 all (text ++ more)

pub none_yet : (plan : PlanNo) (i : TheInterface) (all left : List TheMessage) (number : ℕ) (text : List ℕ) → number ≡ 0 → left ≡ all → text ≡ [] → SoFar plan i all number left text
none_yet plan i all left number text n l t = record {
  rest = λ more m. subst (λ z. AreSections plan i 0 all (z ++ more)) (sym t)
      (subst (λ k. AreSections plan i k all more) n (subst (λ z. AreSections plan i number z more) l m));
}

pub one_more : (plan : PlanNo) (i : TheInterface) (all left after : List TheMessage) (m : TheMessage) (number : ℕ) (text section put now : List ℕ) → left ≡ m ∷ after
    → IsSection plan i number m section → put ≡ section → now ≡ text ++ put → SoFar plan i all number left text → SoFar plan i all (number + 1) after now
one_more plan i all left after m number text section put now e is p w t = record {
  rest = λ more then. subst (AreSections plan i 0 all) (sym (append_assoc text section more) ∙ ap (λ (z : List ℕ). z ++ more) (sym (w ∙ ap (λ (z : List ℕ). text ++ z) p)))
      (t.rest (section ++ more) (subst (λ z. AreSections plan i number z (section ++ more)) (sym e) (section, more, is, then, refl)));
}

pub all_told : (plan : PlanNo) (i : TheInterface) (all left : List TheMessage) (number : ℕ) (text : List ℕ) → left ≡ [] → SoFar plan i all number left text → AreSections plan i 0 all text
all_told plan i all left number text e t =
    subst (AreSections plan i 0 all) (append-nil text) (t.rest [] (subst (λ z. AreSections plan i number z []) (sym e) refl))
