-- The head of an interface, as it is read, and what memory is wanted behind.
use Rattle.std.proofs.Common.{◌≡◌, ℕ, List, ◌++◌, Option, Ok, Err, Result, refl, sym, ◌∙◌, ap, subst, codes, append_assoc, IfErr}
use Rattle.fl_lex.specs.declared.token.Mark.TheVariants.{OpenBrace}
use Rattle.fl_lex.specs.declared.token.TokenKind.TheVariants as kinds
use Rattle.fl_lex.specs.Token.{TheToken}
use Rattle.fl_parse.specs.declared.stop.ParseStop.{ParseStop}
use Rattle.fl_parse.specs.declared.stop.ParseStop.TheVariants as stops
use Rattle.fl_parse.specs.declared.fault.ParseFault.TheVariants as faults
use Rattle.fl_parse.specs.Tree.{TheName}
use Rattle.fl_parse.specs.Grammar
use Rattle.fl_parse.specs.Grammar.{Word, AName, Optional, ADescription, TheMark, HasHead, name_in, if_so}
use Rattle.fl_parse.specs.Parts.{stop_fault}
use Rattle.fl_parse.specs.Reading.{Read, one_at, word_at, mark_at, description_at}
use Rattle.fl_parse.proofs.Laws.{WasRead, Answers, Reads, Any, one_reads}
use Rattle.fl_parse.proofs.Lists.{mark_reads, name_reads}
use Rattle.fl_parse.proofs.Productions.{description_reads}

was_read : {A : Type 0} {L : List TheToken → A → Type 0} {F : List TheToken → Type 0} {r : List TheToken → Read A} (reads : Reads L F r)
    (tokens rest : List TheToken) (x : A) → r tokens ≡ Ok (x, rest) → WasRead L F tokens x rest
was_read {L = L} {F = F} reads tokens rest x e = subst (λ o. Answers L F tokens o) e (reads.answers tokens)

word_reads : Reads (Word (codes "interface")) Any (word_at (codes "interface"))
word_reads = one_reads (λ token. if_so (Grammar.is_word token (codes "interface")) tt) (record { kind = kinds.Word; text = codes "interface"; at = 0 }) tt refl

pub has_head : (tokens a b c d : List TheToken) (name : TheName) (description : Option (List ℕ)) → word_at (codes "interface") tokens ≡ Ok (tt, a)
    → one_at name_in a ≡ Ok (name, b) → description_at b ≡ Ok (description, c) → mark_at OpenBrace c ≡ Ok (tt, d) → HasHead tokens
has_head tokens a b c d name description w n s m =
    let first = was_read word_reads tokens a tt w in
    let second = was_read name_reads a b name n in
    let third = was_read description_reads b c description s in
    let fourth = was_read (mark_reads OpenBrace) c d tt m in
    let three = ap (λ (l : List TheToken). third.prefix ++ l) fourth.tokens_are ∙ sym (append_assoc third.prefix fourth.prefix d) in
    let two = ap (λ (l : List TheToken). second.prefix ++ l) (third.tokens_are ∙ three) ∙ sym (append_assoc second.prefix (third.prefix ++ fourth.prefix) d) in
    let one = ap (λ (l : List TheToken). first.prefix ++ l) (second.tokens_are ∙ two) ∙ sym (append_assoc first.prefix (second.prefix ++ (third.prefix ++ fourth.prefix)) d) in
    record {
      head = first.prefix ++ (second.prefix ++ (third.prefix ++ fourth.prefix));
      rest = d;
      tokens_are = first.tokens_are ∙ one;
      is = record {
        prefix = first.prefix;
        back = second.prefix ++ (third.prefix ++ fourth.prefix);
        middle = tt;
        tokens_are = refl;
        prefix_is = first.is;
        back_is = record {
          prefix = second.prefix;
          back = third.prefix ++ fourth.prefix;
          middle = name;
          tokens_are = refl;
          prefix_is = second.is;
          back_is = record {
            prefix = third.prefix;
            back = fourth.prefix;
            middle = description;
            tokens_are = refl;
            prefix_is = third.is;
            back_is = fourth.is;
          };
        };
      };
    }

-- what holds where memory is wanted
pub on_memory : {X P : Type 0} (r : Result X ParseStop) → P → IfErr r (λ stop. stop ≡ stops.Memory → P)
on_memory (Ok x) p = tt
on_memory (Err e) p = λ _. p

-- the fault that a stop comes to is out of memory where the stop is
pub memory_stop : (e : ParseStop) (end : ℕ) → stop_fault e end ≡ faults.Memory → e ≡ stops.Memory
memory_stop stops.Memory end q = refl
memory_stop (stops.Unexpected rest) end q = absurd cc
