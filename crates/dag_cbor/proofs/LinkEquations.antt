-- The equations of `links_of`, one for each variant.
use Rattle.std.proofs.Common.{◌≡◌, ℕ, ℤ, Bool, List, [], ◌∷◌, ◌++◌, map, refl, sym, ap, ◌∙◌}
use Rattle.std.specs.List.{flat_map}
use Rattle.fil_base.specs.CidParts.{CidParts}
use Rattle.dag_cbor.specs.declared.value.Value.{Value, fold-roll-Value}
use Rattle.dag_cbor.specs.declared.value.Value.TheVariants as v
use Rattle.dag_cbor.specs.declared.value.Value.TheOpen as layer
use Rattle.dag_cbor.specs.Links.{links_layer, links_of}

pub links_of-Null : links_of v.Null ≡ []
unfolding links_of
links_of-Null = ap links_of (sym v.rolls-Null) ∙ fold-roll-Value (List CidParts) links_layer layer.Null

pub links_of-Bool : (b : Bool) → links_of (v.Bool b) ≡ []
unfolding links_of
links_of-Bool b = ap links_of (sym (v.rolls-Bool b)) ∙ fold-roll-Value (List CidParts) links_layer (layer.Bool b)

pub links_of-Int : (i : ℤ) → links_of (v.Int i) ≡ []
unfolding links_of
links_of-Int i = ap links_of (sym (v.rolls-Int i)) ∙ fold-roll-Value (List CidParts) links_layer (layer.Int i)

pub links_of-Blob : (bytes : List ℕ) → links_of (v.Blob bytes) ≡ []
unfolding links_of
links_of-Blob bytes = ap links_of (sym (v.rolls-Blob bytes)) ∙ fold-roll-Value (List CidParts) links_layer (layer.Blob bytes)

pub links_of-Text : (bytes : List ℕ) → links_of (v.Text bytes) ≡ []
unfolding links_of
links_of-Text bytes = ap links_of (sym (v.rolls-Text bytes)) ∙ fold-roll-Value (List CidParts) links_layer (layer.Text bytes)

-- pieces that are mapped first, one after another
pub flat_map-map : {X Y A : Type 0} (f : Y → List A) (g : X → Y) (xs : List X) → flat_map f (map g xs) ≡ flat_map (λ x. f (g x)) xs
flat_map-map f g [] = refl
flat_map-map f g (x ∷ xs) = ap (λ ys. f (g x) ++ ys) (flat_map-map f g xs)

pub links_of-List : (vs : List Value) → links_of (v.List vs) ≡ flat_map links_of vs
unfolding links_of
links_of-List vs = ap links_of (sym (v.rolls-List vs)) ∙ fold-roll-Value (List CidParts) links_layer (layer.List vs) ∙ flat_map-map (λ (cids : List CidParts). cids) links_of vs

-- a pair, with the links of its item
abbrev with_links : List ℕ × Value → List ℕ × List CidParts
with_links p = (p.0, links_of p.1)

pub links_of-Map : (ps : List (List ℕ × Value)) → links_of (v.Map ps) ≡ flat_map (λ p. links_of p.1) ps
unfolding links_of
links_of-Map ps = ap links_of (sym (v.rolls-Map ps)) ∙ fold-roll-Value (List CidParts) links_layer (layer.Map ps) ∙ flat_map-map (λ (p : List ℕ × List CidParts). p.1) with_links ps

pub links_of-Link : (cid : CidParts) → links_of (v.Link cid) ≡ cid ∷ []
unfolding links_of
links_of-Link cid = ap links_of (sym (v.rolls-Link cid)) ∙ fold-roll-Value (List CidParts) links_layer (layer.Link cid)
