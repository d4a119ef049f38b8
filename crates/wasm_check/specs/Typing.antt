-- The types of code (WebAssembly 1.0, section 3.3): what operands it may find, and what it then leaves. Lists of operands
-- begin with the topmost one.
use Rattle.std.specs.Prelude.{◌≡◌, List, [], ◌∷◌, ◌++◌, reverse, None, option_to_list, Ok}
use Rattle.wasm_types.specs.declared.val_type.ValType.{ValType}
use Rattle.wasm_types.specs.declared.val_type.ValType.TheVariants.{I32}
use Rattle.wasm_check.specs.Code.{Code, done, plain, in_block, in_loop, in_if, in_if_else}
use Rattle.wasm_check.specs.Effects.{Context, Effect, moves, leaves, disagrees, drops, selects, effect_of}
use Rattle.wasm_check.specs.Judging.{inside}

-- the types of an instruction with this effect. One that jumps has each type that takes its operands
abbrev pub HasEffect : Effect → List ValType → List ValType → Type 0
HasEffect (moves takes gives) before after =
    (under : List ValType) × (before ≡ reverse takes ++ under) × (after ≡ option_to_list gives ++ under)
HasEffect (leaves takes) before after = (under : List ValType) × (before ≡ reverse takes ++ under)
HasEffect (disagrees takes) before after = ⊥
HasEffect drops before after = (t : ValType) × (before ≡ t ∷ after)
HasEffect selects before after =
    (t : ValType) × (under : List ValType) × (before ≡ I32 ∷ (t ∷ (t ∷ under))) × (after ≡ t ∷ under)

-- the types of code
unfoldable pub HasType : Context → Code → List ValType → List ValType → Type 0
HasType C done before after = before ≡ after
HasType C (plain o rest) before after =
    (effect : Effect) × (between : List ValType) × (effect_of C o ≡ Ok effect) × HasEffect effect before between
    × HasType C rest between after
HasType C (in_block result body rest) before after =
    HasType (inside C result) body [] (option_to_list result) × HasType C rest (option_to_list result ++ before) after
HasType C (in_loop result body rest) before after =
    HasType (inside C None) body [] (option_to_list result) × HasType C rest (option_to_list result ++ before) after
HasType C (in_if result body rest) before after =
    (under : List ValType) × (before ≡ I32 ∷ under) × (result ≡ None)
    × HasType (inside C result) body [] [] × HasType C rest under after
HasType C (in_if_else result first second rest) before after =
    (under : List ValType) × (before ≡ I32 ∷ under)
    × HasType (inside C result) first [] (option_to_list result) × HasType (inside C result) second [] (option_to_list result)
    × HasType C rest (option_to_list result ++ under) after
