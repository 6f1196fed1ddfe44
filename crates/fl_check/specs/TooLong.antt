-- Which trees are refused for a payload that is too long (E21).
use Rattle.std.specs.Prelude.{◌≡◌, ℕ, true, List, ◌∷◌, ◌++◌, Contains}
use Rattle.fl_interface.specs.Types.{TheMessage, TheInterface}
use Rattle.fl_check.specs.Known.{Before, nothing_declared, after_all, messages_of}
use Rattle.fl_interface.specs.Limits.{is_too_long}
use Rattle.fl_check.specs.Checks.{Checks, checked, check_fault}
use Rattle.fl_interface.specs.Limits.{are_arguments_within}
use Rattle.fl_parse.specs.Tree.{TheName, TheDeclaration, alias_of, typedef_of, enum_of, struct_of, message_of, rpc_of, TheTree}

-- the name that a declaration declares
abbrev pub name_declared : TheDeclaration → TheName
name_declared (alias_of new old) = new
name_declared (typedef_of old new count) = new
name_declared (enum_of members name) = name
name_declared (struct_of fields name) = name
name_declared (message_of kind name args) = name
name_declared (rpc_of name args) = name

-- a message that is too long, of one of these declarations, told of at the declared name; the types of its arguments are such
-- as may be declared
pub record IsTooLongAt (b : Before) (ds : List TheDeclaration) (at : ℕ) : Type 0 where
  pub before : List TheDeclaration
  pub declaration : TheDeclaration
  pub rest : List TheDeclaration
  pub stands : ds ≡ before ++ declaration ∷ rest
  pub place : (name_declared declaration).at ≡ at
  pub message : TheMessage
  pub declared : Contains (messages_of (after_all b before) declaration) message
  pub types : are_arguments_within message.args ≡ true
  pub long : is_too_long message ≡ true

-- where E21 is answered there is a message that is too long
abbrev pub RefusesTooLong : Type 0
RefusesTooLong = (tree : TheTree) (at : ℕ) → Checks tree (check_fault 21 at) → IsTooLongAt nothing_declared tree.declarations at

-- a tree with such a message stands for no interface
abbrev pub AcceptsNoneTooLong : Type 0
AcceptsNoneTooLong = (tree : TheTree) (i : TheInterface) (at : ℕ) → Checks tree (checked i) → IsTooLongAt nothing_declared tree.declarations at → ⊥
