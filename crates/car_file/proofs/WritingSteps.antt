-- What is written of an archive, block by block.
use Rattle.std.proofs.Common.{take, ◌≡◌, ℕ, ◌+◌, ◌<◌, List, [], ◌∷◌, ◌++◌, length, get_or, sym, ap, subst, ◌∙◌, append-nil}
use Rattle.std.proofs.lemmas.List.{flat_map_more, take_more}
use Rattle.fil_base.specs.CidParts.{CidParts, IsCid}
use Rattle.cid_core.specs.BlockParts.{BlockParts}
use Rattle.dag_cbor.specs.declared.value.Value.{Value}
use Rattle.dag_cbor.specs.Plain.{IsPlain}
use Rattle.dag_cbor.specs.Spelling.{spelled}
use Rattle.car_file.specs.Car.{car, content_of, framed, header_of}
use Rattle.car_file.proofs.Headers.{plain_header}

-- a header has a spelling
pub header_is_plain : (root : CidParts) (header : Value) → IsCid root → header ≡ header_of root → IsPlain 128 header
header_is_plain root header is_cid is = subst (IsPlain 128) (sym is) (plain_header root is_cid)

-- the header is the archive of no blocks
pub header_written : (root : CidParts) (old new : List ℕ) → old ≡ [] → new ≡ old ++ framed (spelled (header_of root)) → new ≡ car root []
unfolding car
header_written root old new none is =
    is ∙ (ap (λ bytes. bytes ++ framed (spelled (header_of root))) none ∙ sym (append-nil (framed (spelled (header_of root)))))

-- one section more makes the archive of one block more
pub section_written : (root : CidParts) (blocks : List BlockParts) (i : ℕ) (b : BlockParts) (old new : List ℕ) → i < length blocks → b ≡ get_or blocks i b
    → old ≡ car root (take i blocks) → new ≡ old ++ framed (content_of b) → new ≡ car root (take (i + 1) blocks)
unfolding car
section_written root blocks i b old new within at so_far is =
    let more : take (i + 1) blocks ≡ take i blocks ++ (b ∷ []) = take_more blocks i b within ∙ ap (λ block. take i blocks ++ (block ∷ [])) (sym at) in
    is ∙ (ap (λ bytes. bytes ++ framed (content_of b)) so_far ∙ (flat_map_more (λ block. framed (content_of block)) (framed (spelled (header_of root))) (take i blocks) b ∙ ap (car root) (sym more)))
