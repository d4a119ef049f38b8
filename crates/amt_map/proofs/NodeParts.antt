-- What a value is whose parts are those of a node.
use Rattle.std.proofs.Common.{◌≡◌, ℕ, ◌+◌, ◌<◌, ◌^◌, ◌==◌, Bool, true, cond, List, [], ◌∷◌, ◌++◌, get_or, length, map, negsuc, pos, sum, zip, Option, Some, None, refl, sym, ap, subst, ◌∙◌, arith}
use Rattle.std.proofs.lemmas.Bool.{agree_below_at, eqb-true}
use Rattle.dag_cbor.specs.Spelling.{head, spelled}
use Rattle.dag_cbor.specs.declared.value.Value.{Value, Value-F, out-Value, roll-Value, roll-out-Value}
use Rattle.dag_cbor.specs.declared.value.Value.TheOpen as layer
use Rattle.dag_cbor.specs.declared.value.Value.TheVariants as v
use Rattle.dag_cbor.proofs.Equations.{spelled-Blob, spelled-List}
use Rattle.fil_base.specs.CidParts.{CidParts}
use Rattle.tree_blocks.specs.Forms.{bytes_in, for_each, if_some, items_in}
use Rattle.tree_blocks.proofs.ForEach.{if_some_gives}
use Rattle.amt_map.specs.Node.{node_of}
use Rattle.amt_map.specs.Walk.{NodeParts, Three, by_digit, link_in, one_byte, parts_in, parts_of, set_digits, three_in, three_of, number_in}
use Rattle.amt_map.proofs.NodeForm.{cid_of_link}

-- ---- layers

list_layer : (x : Value) (items : List Value) → items_in (out-Value x) ≡ Some items → x ≡ v.List items
list_layer x items e = by (out-Value x) (roll-out-Value x) e where
  by : (l : Value-F Value) → roll-Value l ≡ x → items_in l ≡ Some items → x ≡ v.List items
  by layer.Null is e = cc
  by (layer.Bool b) is e = cc
  by (layer.Int n) is e = cc
  by (layer.Blob bytes) is e = cc
  by (layer.Text bytes) is e = cc
  by (layer.List xs) is e = let same : xs ≡ items = cc in sym is ∙ v.rolls-List xs ∙ ap (λ (ys : List Value). v.List ys) same
  by (layer.Map pairs) is e = cc
  by (layer.Link cid) is e = cc

blob_layer : (x : Value) (content : List ℕ) → bytes_in (out-Value x) ≡ Some content → x ≡ v.Blob content
blob_layer x content e = by (out-Value x) (roll-out-Value x) e where
  by : (l : Value-F Value) → roll-Value l ≡ x → bytes_in l ≡ Some content → x ≡ v.Blob content
  by layer.Null is e = cc
  by (layer.Bool b) is e = cc
  by (layer.Int n) is e = cc
  by (layer.Blob bytes) is e = let same : bytes ≡ content = cc in sym is ∙ v.rolls-Blob bytes ∙ ap (λ (ys : List ℕ). v.Blob ys) same
  by (layer.Text bytes) is e = cc
  by (layer.List xs) is e = cc
  by (layer.Map pairs) is e = cc
  by (layer.Link cid) is e = cc

link_layer : (x : Value) (cid : CidParts) → link_in (out-Value x) ≡ Some cid → x ≡ v.Link cid
link_layer x cid e = by (out-Value x) (roll-out-Value x) e where
  by : (l : Value-F Value) → roll-Value l ≡ x → link_in l ≡ Some cid → x ≡ v.Link cid
  by layer.Null is e = cc
  by (layer.Bool b) is e = cc
  by (layer.Int n) is e = cc
  by (layer.Blob bytes) is e = cc
  by (layer.Text bytes) is e = cc
  by (layer.List xs) is e = cc
  by (layer.Map pairs) is e = cc
  by (layer.Link other) is e = let same : other ≡ cid = cc in sym is ∙ v.rolls-Link other ∙ ap (λ (c : CidParts). v.Link c) same

-- the links that were read are these
pub links_are : (xs : List Value) (cids : List CidParts) → for_each cid_of_link xs ≡ Some cids → xs ≡ map (λ c. v.Link c) cids
links_are [] cids e = let nothing : [] ≡ cids = cc in ap (map (λ c. v.Link c)) nothing
links_are (x ∷ xs) cids e =
    let first = if_some_gives (cid_of_link x) (λ y. if_some (for_each cid_of_link xs) (λ ys. Some (y ∷ ys))) cids e in
    let rest = if_some_gives (for_each cid_of_link xs) (λ ys. Some (first.0 ∷ ys)) cids first.2 in
    let whole : first.0 ∷ rest.0 ≡ cids = cc in
    (λ i. link_layer x first.0 first.1 i ∷ links_are xs rest.0 rest.1 i) ∙ ap (map (λ c. v.Link c)) whole

-- ---- the whole node

three_list : (items : List Value) (three : Three) → three_of items ≡ Some three → items ≡ three.first ∷ three.second ∷ three.third ∷ []
three_list [] three e = cc
three_list (x ∷ []) three e = cc
three_list (x ∷ y ∷ []) three e = cc
three_list (x ∷ y ∷ z ∷ []) three e = let same : record { first = x; second = y; third = z } ≡ three = cc in ap (λ (t : Three). t.first ∷ t.second ∷ t.third ∷ []) same
three_list (x ∷ y ∷ z ∷ w ∷ more) three e = cc

three_layer : (x : Value) (three : Three) → three_in x ≡ Some three → x ≡ v.List (three.first ∷ three.second ∷ three.third ∷ [])
three_layer x three e =
    let items = if_some_gives (items_in (out-Value x)) three_of three e in
    list_layer x items.0 items.1 ∙ ap (λ (xs : List Value). v.List xs) (three_list items.0 three items.2)

one_list : (bytes : List ℕ) (bits : ℕ) → one_byte bytes ≡ Some bits → bytes ≡ bits ∷ []
one_list [] bits e = cc
one_list (b ∷ []) bits e = let same : b ≡ bits = cc in ap (λ (n : ℕ). n ∷ []) same
one_list (b ∷ next ∷ more) bits e = cc

pub node_whole : (x : Value) (node : NodeParts) → parts_in x ≡ Some node → x ≡ node_of node.bits node.links node.values
node_whole x node e =
    let three = if_some_gives (three_in x) parts_of node e in
    let made : (bits : ℕ) → (links : List Value) → List Value → Option NodeParts = λ bits links values. Some (record { bits = bits; links = links; values = values }) in
    let bytes = if_some_gives (bytes_in (out-Value three.0.first)) (λ bytes. if_some (one_byte bytes) (λ bits. if_some (items_in (out-Value three.0.second)) (λ links. if_some (items_in (out-Value three.0.third)) (made bits links)))) node three.2 in
    let bits = if_some_gives (one_byte bytes.0) (λ bits. if_some (items_in (out-Value three.0.second)) (λ links. if_some (items_in (out-Value three.0.third)) (made bits links))) node bytes.2 in
    let links = if_some_gives (items_in (out-Value three.0.second)) (λ links. if_some (items_in (out-Value three.0.third)) (made bits.0 links)) node bits.2 in
    let values = if_some_gives (items_in (out-Value three.0.third)) (made bits.0 links.0) node links.2 in
    let whole : record { bits = bits.0; links = links.0; values = values.0 } ≡ node = cc in
    let first : three.0.first ≡ v.Blob (bits.0 ∷ []) = blob_layer three.0.first bytes.0 bytes.1 ∙ ap (λ (b : List ℕ). v.Blob b) (one_list bytes.0 bits.0 bits.1) in
    let second : three.0.second ≡ v.List links.0 = list_layer three.0.second links.0 links.1 in
    let third : three.0.third ≡ v.List values.0 = list_layer three.0.third values.0 values.1 in
    three_layer x three.0 three.1 ∙ (λ i. v.List (first i ∷ second i ∷ third i ∷ [])) ∙ ap (λ (n : NodeParts). node_of n.bits n.links n.values) whole

-- ---- the bitmap

-- it is a byte, if the spelling has bytes
pub byte_small : (bytes : List ℕ) (bits : ℕ) (links values : List Value) → ((i : ℕ) → get_or bytes i 0 < 256) → bytes ≡ spelled (node_of bits links values) → bits < 256
unfolding head
byte_small bytes bits links values fits is =
    let items : List Value = v.Blob (bits ∷ []) ∷ v.List links ∷ v.List values ∷ [] in
    let text : bytes ≡ head 4 3 ++ ((head 2 1 ++ (bits ∷ [])) ++ (spelled (v.List links) ++ (spelled (v.List values) ++ []))) =
    is ∙ spelled-List items ∙ ap (λ (t : List ℕ). head 4 3 ++ (t ++ (spelled (v.List links) ++ (spelled (v.List values) ++ [])))) (spelled-Blob (bits ∷ [])) in
    subst (λ (n : ℕ). n < 256) (ap (λ (bs : List ℕ). get_or bs 2 0) text) (fits 2)

-- the sum of the bits of some digits
abbrev pub bits_of : List ℕ → ℕ
bits_of ds = sum (map (λ d. 2 ^ d) ds)

-- a byte is the sum of its bits
pub byte_again : (bits : ℕ) → bits < 256 → bits_of (set_digits bits) ≡ bits
byte_again bits lt = eqb-true (bits_of (set_digits bits)) bits (sym (agree_below_at (λ b. true) (λ b. bits_of (set_digits b) == b) 256 bits refl lt))

-- ---- what stands at the digits of a bitmap

zip_firsts : {A B : Type 0} (xs : List A) (ys : List B) → length ys ≡ length xs → map (λ p. p.0) (zip xs ys) ≡ xs
zip_firsts [] [] same = refl
zip_firsts [] (y ∷ ys) same = refl
zip_firsts (x ∷ xs) [] same = absurd (omega (arith, same))
zip_firsts (x ∷ xs) (y ∷ ys) same = ap (λ t. x ∷ t) (zip_firsts xs ys (omega (arith, same)))

zip_seconds : {A B : Type 0} (xs : List A) (ys : List B) → length ys ≡ length xs → map (λ p. p.1) (zip xs ys) ≡ ys
zip_seconds [] [] same = refl
zip_seconds [] (y ∷ ys) same = absurd (omega (arith, same))
zip_seconds (x ∷ xs) [] same = refl
zip_seconds (x ∷ xs) (y ∷ ys) same = ap (λ t. y ∷ t) (zip_seconds xs ys (omega (arith, same)))

-- slots have all digits and all that stands there
pub record AreAll {X : Type 0} (bits : ℕ) (xs : List X) (slots : List (ℕ × X)) : Type 0 where
  pub digits : map (λ s. s.0) slots ≡ set_digits bits
  pub there : map (λ s. s.1) slots ≡ xs

pub all_slots : {X : Type 0} (bits : ℕ) (xs : List X) (slots : List (ℕ × X)) → by_digit bits xs ≡ Some slots → AreAll bits xs slots
all_slots {X} bits xs slots e = by (length xs == length (set_digits bits)) refl e where
  by : (b : Bool) → (length xs == length (set_digits bits)) ≡ b → cond b (Some (zip (set_digits bits) xs)) None ≡ Some slots → AreAll bits xs slots
  by true many same =
      let is : zip (set_digits bits) xs ≡ slots = cc in
      let count : length xs ≡ length (set_digits bits) = eqb-true (length xs) (length (set_digits bits)) many in
      subst (AreAll bits xs) is (record { digits = zip_firsts (set_digits bits) xs count; there = zip_seconds (set_digits bits) xs count })
  by Bool.false many same = cc

-- ---- a root

number_layer : (x : Value) (n : ℕ) → number_in (out-Value x) ≡ Some n → x ≡ v.Int (pos n)
number_layer x n e = by (out-Value x) (roll-out-Value x) e where
  by : (l : Value-F Value) → roll-Value l ≡ x → number_in l ≡ Some n → x ≡ v.Int (pos n)
  by layer.Null is e = cc
  by (layer.Bool b) is e = cc
  by (layer.Int (pos k)) is e = let same : k ≡ n = cc in sym is ∙ v.rolls-Int (pos k) ∙ ap (λ (j : ℕ). v.Int (pos j)) same
  by (layer.Int (negsuc k)) is e = cc
  by (layer.Blob bytes) is e = cc
  by (layer.Text bytes) is e = cc
  by (layer.List xs) is e = cc
  by (layer.Map pairs) is e = cc
  by (layer.Link cid) is e = cc

pub root_whole : (x first second third : Value) (height count : ℕ) (h c : Option ℕ) → Some (record { first = first; second = second; third = third }) ≡ three_in x → h ≡ number_in (out-Value first) → h ≡ Some height → c ≡ number_in (out-Value second) → c ≡ Some count
    → x ≡ v.List (v.Int (pos height) ∷ v.Int (pos count) ∷ third ∷ [])
root_whole x first second third height count h c three read_h is_h read_c is_c =
    three_layer x (record { first = first; second = second; third = third }) (sym three)
    ∙ (λ i. v.List (number_layer first height (sym read_h ∙ is_h) i ∷ number_layer second count (sym read_c ∙ is_c) i ∷ third ∷ []))
