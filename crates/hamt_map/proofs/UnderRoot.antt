-- What is found of a key under a root.
use Rattle.std.proofs.Common.{◌≡◌, ℕ, List, Option, Some, None, refl, sym, ap, ◌∙◌}
use Rattle.std.specs.FinMap as finmap
use Rattle.std.specs.FinMap.{entries, get}
use Rattle.std.specs.FinMap.Entries.{find}
use Rattle.std.specs.Option.{option_map}
use Rattle.dag_cbor.specs.Plain.{IsPlain}
use Rattle.dag_cbor.specs.Spelling.{spelled}
use Rattle.dag_cbor.specs.declared.value.Value.{Value}
use Rattle.hamt_map.specs.Holds.{FitNodes}
use Rattle.hamt_map.specs.Pairs.{Map, key_cmp}
use Rattle.hamt_map.proofs.Held.{fit_found, none_from, spelling_from}

pub nothing_under : (kept : Map) (q : List ℕ) (found : Option (List ℕ)) → found ≡ None → found ≡ option_map spelled (find key_cmp q (entries kept)) → None ≡ get kept q
nothing_under kept q found none same = none_from (find key_cmp q (entries kept)) (sym none ∙ same) ∙ sym (finmap.get-entries kept q)

pub there_under : (kept : Map) (q s : List ℕ) (found : Option (List ℕ)) → FitNodes (entries kept) → found ≡ Some s → found ≡ option_map spelled (find key_cmp q (entries kept))
    → (x : Value) × (get kept q ≡ Some x) × IsPlain 124 x × (s ≡ spelled x)
there_under kept q s found fit some same =
    let there = spelling_from (find key_cmp q (entries kept)) s (sym some ∙ same) in
    (there.0, finmap.get-entries kept q ∙ there.1, fit_found q (entries kept) there.0 fit there.1, there.2)
