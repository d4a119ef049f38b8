-- Reading the value that a block's bytes spell.
use Rattle.std.proofs.Common.{◌≡◌, ℕ, ◌<◌, List, get_or, Some, None, Ok, Err, Result, refl, sym, ap, ◌∙◌}
use Rattle.fil_base.specs.CidParts.{CidParts}
use Rattle.cid_core.specs.BlockParts.{BlockParts, found}
use Rattle.dag_cbor.specs.Plain.{IsPlain}
use Rattle.dag_cbor.specs.Reading.{whole_at}
use Rattle.dag_cbor.specs.Spelling.{spelled}
use Rattle.dag_cbor.specs.declared.fault.Flaw.{Flaw}
use Rattle.dag_cbor.specs.declared.value.Value.{Value}
use Rattle.dag_cbor.proofs.Whole.{whole_again, whole_takes}
use Rattle.hamt_map.specs.StateFaults.{given, value_under}
use Rattle.hamt_map.specs.declared.state_fault.StateFault.TheVariants.{Missing, Form}

-- bytes spell this value
pub value_read : (bytes : List ℕ) (x : Value) → IsPlain 128 x → bytes ≡ spelled x → Some x ≡ given (whole_at bytes)
value_read bytes x plain is = sym (ap given (ap whole_at is ∙ whole_again x plain))

-- bytes spell no value
pub no_value_read : (bytes : List ℕ) → ((i : ℕ) → get_or bytes i 0 < 256) → ((x : Value) → IsPlain 128 x → bytes ≡ spelled x → ⊥) → None ≡ given (whole_at bytes)
no_value_read bytes fits nothing = by_reading (whole_at bytes) refl where
  by_reading : (r : Result Value Flaw) → whole_at bytes ≡ r → None ≡ given (whole_at bytes)
  by_reading (Ok x) e = let taken = whole_takes bytes x fits e in absurd (nothing x taken.0 taken.1)
  by_reading (Err at) e = rw e refl
