-- The links that were found, in the words of the value that has them.
use Rattle.std.proofs.Common.{◌≡◌, ℕ, ℤ, Bool, List, [], ◌++◌, sym, ap, ◌∙◌, inl, inr, ◌⊎◌}
use Rattle.std.proofs.lemmas.List.{append-nil}
use Rattle.std.specs.List.{flat_map}
use Rattle.fil_base.specs.CidParts.{CidParts}
use Rattle.dag_cbor.specs.declared.value.Value.{Value}
use Rattle.dag_cbor.specs.declared.value.Value.TheVariants as v
use Rattle.dag_cbor.specs.Links.{links_of}
use Rattle.dag_cbor.proofs.LinkEquations.{links_of-Null, links_of-Bool, links_of-Int, links_of-Blob, links_of-Text, links_of-List, links_of-Map}

-- the links of a list's items are its own
pub list_links : (x : Value) (items vs : List Value) → items ≡ vs → x ≡ v.List vs → flat_map links_of items ≡ links_of x
list_links x items vs same is = rw (same, is) (sym (links_of-List vs))

-- the links of the items of a map's pairs are its own
pub map_links : (x : Value) (pairs ps : List (List ℕ × Value)) → pairs ≡ ps → x ≡ v.Map ps → flat_map (λ p. links_of p.1) pairs ≡ links_of x
map_links x pairs ps same is = rw (same, is) (sym (links_of-Map ps))

nothing_more : (old : List CidParts) (x y : Value) → x ≡ y → links_of y ≡ [] → old ≡ old ++ links_of x
nothing_more old x y is none = sym (ap (λ (links : List CidParts). old ++ links) (ap links_of is ∙ none) ∙ append-nil old)

-- a value with no items in it that is no link has no links
pub no_links : (old : List CidParts) (x : Value) → (x ≡ v.Null) ⊎ (((b : Bool) × (x ≡ v.Bool b)) ⊎ (((i : ℤ) × (x ≡ v.Int i)) ⊎ (((bytes : List ℕ) × (x ≡ v.Blob bytes)) ⊎ ((text : List ℕ) × (x ≡ v.Text text)))))
    → old ≡ old ++ links_of x
no_links old x (inl is) = nothing_more old x v.Null is links_of-Null
no_links old x (inr (inl (b, is))) = nothing_more old x (v.Bool b) is (links_of-Bool b)
no_links old x (inr (inr (inl (i, is)))) = nothing_more old x (v.Int i) is (links_of-Int i)
no_links old x (inr (inr (inr (inl (bytes, is))))) = nothing_more old x (v.Blob bytes) is (links_of-Blob bytes)
no_links old x (inr (inr (inr (inr (text, is))))) = nothing_more old x (v.Text text) is (links_of-Text text)
