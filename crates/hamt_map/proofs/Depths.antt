-- A value of some depth has any greater depth.
use Rattle.std.proofs.Common.{ℕ, zero, suc, List, [], ◌∷◌, pos, negsuc}
use Rattle.std.specs.List.{AllByRecursion}
use Rattle.dag_cbor.specs.declared.value.Value.{Value, Value-F, out-Value}
use Rattle.dag_cbor.specs.declared.value.Value.TheOpen as layer
use Rattle.dag_cbor.specs.Plain.{IsPlain, IsPlainLayer, IsText}

weaker_all : {X : Type 0} (P Q : X → Type 0) → ((x : X) → P x → Q x) → (xs : List X) → AllByRecursion P xs → AllByRecursion Q xs
weaker_all P Q weaker [] all = tt
weaker_all P Q weaker (x ∷ xs) all = (weaker x all.0, weaker_all P Q weaker xs all.1)

weaker_layer : (P Q : Value → Type 0) → ((x : Value) → P x → Q x) → (l : Value-F Value) → IsPlainLayer P l → IsPlainLayer Q l
weaker_layer P Q weaker layer.Null h = h
weaker_layer P Q weaker (layer.Bool b) h = h
weaker_layer P Q weaker (layer.Int (pos n)) h = h
weaker_layer P Q weaker (layer.Int (negsuc n)) h = h
weaker_layer P Q weaker (layer.Blob bytes) h = h
weaker_layer P Q weaker (layer.Text bytes) h = h
weaker_layer P Q weaker (layer.List items) h = (h.0, weaker_all P Q weaker items h.1)
weaker_layer P Q weaker (layer.Map pairs) h =
    (h.0, h.1, weaker_all (λ p. IsText p.0 × P p.1) (λ p. IsText p.0 × Q p.1) (λ p both. (both.0, weaker p.1 both.1)) pairs h.2)
weaker_layer P Q weaker (layer.Link cid) h = h

one_deeper : (d : ℕ) (x : Value) → IsPlain d x → IsPlain (suc d) x
unfolding IsPlain
one_deeper zero x h = absurd h
one_deeper (suc d) x h = weaker_layer (IsPlain d) (IsPlain (suc d)) (one_deeper d) (out-Value x) h

pub four_deeper : (d : ℕ) (x : Value) → IsPlain d x → IsPlain (suc (suc (suc (suc d)))) x
four_deeper d x h = one_deeper (suc (suc (suc d))) x (one_deeper (suc (suc d)) x (one_deeper (suc d) x (one_deeper d x h)))

pub two_deeper : (d : ℕ) (x : Value) → IsPlain d x → IsPlain (suc (suc d)) x
two_deeper d x h = one_deeper (suc d) x (one_deeper d x h)
