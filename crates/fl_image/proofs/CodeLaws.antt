-- Code: what is read is spelled so, and what is spelled so is read.
use Rattle.std.proofs.Common.{◌≡◌, ℕ, ◌^◌, ◌<◌, true, false, List, [], ◌++◌, length, Option, Some, None, Ok, refl, sym, ap, subst, ◌∙◌, arith}
use Rattle.std.specs.Prelude.{is_some}
use Rattle.std.specs.List.{flat_map}
use Rattle.std.specs.Cmp.{first_so, second_so}
use Rattle.std.proofs.lemmas.Bool.{eqb-true, eq-eqb}
use Rattle.fl_stub.specs.declared.op.Op.{Op}
use Rattle.fl_stub.specs.declared.op.Op.TheVariants as ops
use Rattle.fl_stub.specs.declared.op.Column.{Column}
use Rattle.fl_stub.specs.declared.op.Column.TheVariants.{Send, Receive}
use Rattle.fl_stub.specs.Structure.{is_operand_within}
use Rattle.fl_image.specs.Image.{one, two, four, Codes, op_code, operand_of, op_image, code_image, codes_image}
use Rattle.fl_image.specs.Reading.{◌>>=◌, in_range, known, many_at, one_at, two_at, four_at, ops_of, op_with, takes_operand, op_at, code_at, codes_at}
use Rattle.fl_image.proofs.ReadBack.{IsBytes, Law, follow, mapped, many, IsList, AllAfter, range_ok}
use Rattle.fl_image.proofs.Numbers.{one_law, two_law, four_law}
use Rattle.fl_image.proofs.TypeLaws.{with_code_is}

-- an op of a column that has an image
pub record HasImage (column : Column) (op : Op) : Type 0 where
  pub known : is_some (op_with column (op_code op) 0) ≡ true
  pub same : op_with column (op_code op) (operand_of op) ≡ Some op
  pub within : is_operand_within op ≡ true
  pub small : operand_of op < 65536

op_code_small : (op : Op) → op_code op < 256
op_code_small (ops.Emit n) = omega arith
op_code_small (ops.Pad n) = omega arith
op_code_small ops.Align = omega arith
op_code_small (ops.Length n) = omega arith
op_code_small (ops.Times n) = omega arith
op_code_small ops.Each = omega arith
op_code_small ops.Back = omega arith
op_code_small ops.End = omega arith
op_code_small (ops.Read n) = omega arith
op_code_small ops.ReadBool = omega arith
op_code_small (ops.ReadEnum n) = omega arith
op_code_small ops.ReadChar = omega arith
op_code_small (ops.Skip n) = omega arith
op_code_small (ops.ReadLength n) = omega arith
op_code_small ops.ReadText = omega arith
op_code_small ops.Done = omega arith

pub op_is : (column : Column) (code n : ℕ) (op : Op) → op_with column code n ≡ Some op → op_code op ≡ code
unfolding op_with
op_is column code n op e = with_code_is op_code code (ops_of column n) op e

-- an op of a column with this code and operand
abbrev Made : Column → ℕ → ℕ → Op → Type 0
Made column code n op = (op_with column code n ≡ Some op) × (takes_operand n op ≡ true)

made_taken : (n : ℕ) (o : Option Op) (bytes : List ℕ) (op : Op) (rest : List ℕ) → (known o bytes >>= λ w. in_range (takes_operand n w.0) w) ≡ Ok (op, rest)
    → (o ≡ Some op) × (takes_operand n op ≡ true) × (bytes ≡ rest)
made_taken n None bytes op rest e = absurd cc
made_taken n (Some x) bytes op rest e =
    let g = range_ok (takes_operand n x) (x, bytes) (op, rest) e in
    let it : x ≡ op = ap (λ (p : Op × List ℕ). p.0) g.1 in
    (ap Some it, subst (λ (y : Op). takes_operand n y ≡ true) it g.0, ap (λ (p : Op × List ℕ). p.1) g.1)

made_law : (column : Column) (code n : ℕ) → Law (λ bytes. known (op_with column code n) bytes >>= λ w. in_range (takes_operand n w.0) w) (λ op. []) (Made column code n)
made_law column code n = record {
  takes = λ bytes op rest h e.
      let m = made_taken n (op_with column code n) bytes op rest e in
      (record { parts = m.2; rest_fits = subst IsBytes m.2 h }, (m.0, m.1));
  again = λ op rest h. rw (h.0, h.1) refl;
}

-- an op of a column with this code
abbrev Behind : Column → ℕ → Op → Type 0
Behind column code op = (op_code op ≡ code) × HasImage column op

operand_law : (column : Column) (code : ℕ) → is_some (op_with column code 0) ≡ true
    → Law (λ bytes. two_at bytes >>= λ operand. known (op_with column code operand.0) operand.1 >>= λ w. in_range (takes_operand operand.0 w.0) w) (λ op. two (operand_of op)) (Behind column code)
operand_law column code is = follow two_at two (λ n. n < 65536) (λ n bytes. known (op_with column code n) bytes >>= λ w. in_range (takes_operand n w.0) w) (λ n op. []) (Made column code) (λ op. two (operand_of op)) (Behind column code) two_law (λ n lt. made_law column code n) record {
  joined = λ n op lt h.
      let n_is : operand_of op ≡ n = eqb-true (operand_of op) n (second_so _ _ h.1) in
      let code_is : op_code op ≡ code = op_is column code n op h.0 in
      let found : op_with column (op_code op) (operand_of op) ≡ Some op = ap (λ (c : ℕ). op_with column c (operand_of op)) code_is ∙ ap (op_with column code) n_is ∙ h.0 in (
        ap two n_is,
        (
          code_is,
          record {
            known = subst (λ (c : ℕ). is_some (op_with column c 0) ≡ true) (sym code_is) is;
            same = found;
            within = first_so _ _ h.1;
            small = omega (arith, n_is, lt);
          },
        ),
      );
  cut = λ op h.
      let found : op_with column code (operand_of op) ≡ Some op = ap (λ (c : ℕ). op_with column c (operand_of op)) (sym h.0) ∙ h.1.same in
      let takes : takes_operand (operand_of op) op ≡ true = rw (h.1.within, eq-eqb (operand_of op) (operand_of op) refl) refl in
      (operand_of op, h.1.small, (found, takes));
}

-- behind the code, whether it is known at all
known_law : (column : Column) (code : ℕ) (o : Option Op) → op_with column code 0 ≡ o
    → Law (λ bytes. known o bytes >>= λ op. two_at op.1 >>= λ operand. known (op_with column code operand.0) operand.1 >>= λ w. in_range (takes_operand operand.0 w.0) w) (λ op. two (operand_of op)) (Behind column code)
known_law column code None e = record {
  takes = λ bytes op rest h f. absurd cc;
  again = λ op rest h.
      let there : is_some (op_with column code 0) ≡ true = subst (λ (c : ℕ). is_some (op_with column c 0) ≡ true) h.0 h.1.known in
      let not_there : is_some (op_with column code 0) ≡ false = ap is_some e in
      absurd cc;
}
known_law column code (Some x) e = operand_law column code (ap is_some e)

pub op_law : (column : Column) → Law (op_at column) op_image (HasImage column)
unfolding op_at
op_law column = follow one_at one (λ n. n < 256)
    (λ code bytes. known (op_with column code 0) bytes >>= λ op. two_at op.1 >>= λ operand. known (op_with column code operand.0) operand.1 >>= λ w. in_range (takes_operand operand.0 w.0) w)
    (λ code op. two (operand_of op)) (Behind column) op_image (HasImage column) one_law (λ code lt. known_law column code (op_with column code 0) refl) record {
      joined = λ code op lt h. (ap (λ (c : ℕ). one c ++ two (operand_of op)) h.0, h.1);
      cut = λ op h. (op_code op, op_code_small op, (refl, h));
    }

-- code with an image
abbrev pub IsSpelled : Column → List Op → Type 0
IsSpelled column ops = (length ops < 2 ^ 32) × AllAfter (λ before. HasImage column) [] ops

pub code_law : (column : Column) → Law (code_at column) code_image (IsSpelled column)
unfolding code_at
code_law column = follow four_at four (λ n. n < 2 ^ 32) (λ n. many_at (op_at column) n) (λ n. flat_map op_image) (IsList (HasImage column)) code_image (IsSpelled column) four_law (λ n lt. many (op_at column) op_image (HasImage column) (op_law column) n) record {
  joined = λ n ops lt h. (ap (λ (k : ℕ). four k ++ flat_map op_image ops) h.0, (omega (arith, h.0, lt), h.1));
  cut = λ ops h. (length ops, h.0, (refl, h.1));
}

abbrev pub AreSpelled : Codes → Type 0
AreSpelled codes = IsSpelled Send codes.send × IsSpelled Receive codes.receive

abbrev Receives : List Op → Codes → Type 0
Receives send codes = (send ≡ codes.send) × IsSpelled Receive codes.receive

pub codes_law : Law codes_at codes_image AreSpelled
unfolding codes_at
codes_law = follow (code_at Send) code_image (IsSpelled Send) (λ send bytes. code_at Receive bytes >>= λ receive. Ok (record { send = send; receive = receive.0 }, receive.1)) (λ send codes. code_image codes.receive) Receives codes_image AreSpelled (code_law Send)
    (λ send h. mapped (code_at Receive) code_image (IsSpelled Receive) (λ receive. record { send = send; receive = receive }) (λ codes. code_image codes.receive) (Receives send) (code_law Receive) record {
      made = λ receive fits. (refl, (refl, fits));
      cut = λ codes fits. (codes.receive, ap (λ (s : List Op). record { send = s; receive = codes.receive }) fits.0, fits.1);
    })
    record {
      joined = λ send codes h fits. (ap (λ (s : List Op). code_image s ++ code_image codes.receive) (sym fits.0), (subst (IsSpelled Send) fits.0 h, fits.1));
      cut = λ codes h. (codes.send, h.0, (refl, h.1));
    }
