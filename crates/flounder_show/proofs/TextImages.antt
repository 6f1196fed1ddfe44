-- The interface that a text stands for has an image.
use Rattle.std.proofs.Common.{◌≡◌, ℕ, Bool, true, false, ◌&&◌, List, ap, ◌∙◌, subst}
use Rattle.std.proofs.lemmas.Bool.{and_parts}
use Rattle.fl_lex.specs.Token.{TheTokens}
use Rattle.fl_lex.specs.Outcome.{IsLexed}
use Rattle.fl_parse.specs.Grammar.{Derives}
use Rattle.fl_parse.specs.Tree.{TheTree}
use Rattle.fl_interface.specs.Interface.{TheInterface}
use Rattle.fl_check.specs.Checks.{StandsFor}
use Rattle.fl_interface.specs.Limits.{is_within_limits}
use Rattle.fl_check.proofs.Limits.{within_limits}
use Rattle.fl_check.proofs.TextInterfaces.{texts_are_spellable}
use Rattle.fl_value_data.specs.declared.value.PlanNo.{PlanNo}
use Rattle.fl_value_data.specs.declared.value.PlanNo.TheVariants.{Two}
use Rattle.fl_compile.specs.Programs.{TheProgram}
use Rattle.fl_image.specs.Image.{is_spellable, is_writable, has_image, image_of}
use Rattle.fl_image.proofs.Named.{spellable_enums}
use Rattle.flounder_show.specs.Content.{StandsFor as TextStandsFor, IsImageOf, ShowsImage, HeadsImage}
use Rattle.flounder_show.specs.Table.{IsTable}
use Rattle.flounder_header.specs.Header.{IsHeader}

both : (a b : Bool) → a ≡ true → b ≡ true → (a && b) ≡ true
both true b p q = q
both false b p q = absurd cc

pub text_has_image : (bytes : List ℕ) (tokens : TheTokens) (tree : TheTree) (i : TheInterface) → IsLexed bytes tokens → Derives tokens.tokens tree
    → StandsFor tree i → has_image i ≡ true
text_has_image bytes tokens tree i l p s =
    both (is_within_limits i) (is_spellable i) (ap is_within_limits s.1 ∙ within_limits tree s.0)
    (texts_are_spellable bytes i (record { tokens = tokens; tree = tree; spells = l; derives = p; checks = s }))

-- so an image can spell it
pub text_is_writable : (bytes : List ℕ) (i x : TheInterface) → TextStandsFor bytes i → x ≡ i → is_writable x ≡ true
text_is_writable bytes i x s e =
    ap is_writable e ∙ spellable_enums i (and_parts (is_within_limits i) (is_spellable i) (text_has_image bytes s.tokens s.tree i s.spells s.derives s.checks)).1

-- what a program's image is an image of, where the program was compiled from a text's interface under plan 2
pub image_told : (bytes image : List ℕ) (i : TheInterface) (p : TheProgram) → TextStandsFor bytes i → p.interface ≡ i → p.plan ≡ Two → image ≡ image_of p.plan p.interface
    → (x : TheInterface) × TextStandsFor bytes x × IsImageOf image Two x
image_told bytes image i p s e plan w = (
  i,
  s,
  record {
    has = text_has_image bytes s.tokens s.tree i s.spells s.derives s.checks;
    spelled = w ∙ ap (λ (q : PlanNo). image_of q p.interface) plan ∙ ap (image_of Two) e;
  },
)

-- the table of a program that was read from an image
pub table_told : (bytes table : List ℕ) (p : TheProgram) (i : TheInterface) (plan : PlanNo) → (has_image p.interface ≡ true) × (bytes ≡ image_of p.plan p.interface)
    → i ≡ p.interface → plan ≡ p.plan → IsTable plan i table → ShowsImage bytes table
table_told bytes table p i plan found e same t = (
  p.plan,
  p.interface,
  record { has = found.0; spelled = found.1 },
  subst (λ (q : PlanNo). IsTable q p.interface table) same (subst (λ (x : TheInterface). IsTable plan x table) e t),
)

-- the header of a program that was read from an image
pub header_told : (bytes header : List ℕ) (p : TheProgram) (i : TheInterface) (plan : PlanNo) → (has_image p.interface ≡ true) × (bytes ≡ image_of p.plan p.interface)
    → i ≡ p.interface → plan ≡ p.plan → IsHeader plan i header → HeadsImage bytes header
header_told bytes header p i plan found e same h = (
  p.plan,
  p.interface,
  record { has = found.0; spelled = found.1 },
  subst (λ (q : PlanNo). IsHeader q p.interface header) same (subst (λ (x : TheInterface). IsHeader plan x header) e h),
)
