-- The links of a value (the IPLD data model, "Links").
use Rattle.std.specs.Prelude.{List, [], ◌∷◌}
use Rattle.std.specs.List.{flat_map}
use Rattle.fil_base.specs.CidParts.{CidParts}
use Rattle.dag_cbor.specs.declared.value.Value.{Value, Value-F, fold-Value}
use Rattle.dag_cbor.specs.declared.value.Value.TheOpen as layer

-- the links of one item, given those of the items in it: a list has those of its items, a map those of the items
-- of its pairs, and a link is one itself
abbrev pub links_layer : Value-F (List CidParts) → List CidParts
links_layer layer.Null = []
links_layer (layer.Bool b) = []
links_layer (layer.Int i) = []
links_layer (layer.Blob bytes) = []
links_layer (layer.Text bytes) = []
links_layer (layer.List items) = flat_map (λ links. links) items
links_layer (layer.Map pairs) = flat_map (λ p. p.1) pairs
links_layer (layer.Link cid) = cid ∷ []

-- the links of a value, in order and with repeats
unfoldable pub links_of : Value → List CidParts
links_of = fold-Value (List CidParts) links_layer
