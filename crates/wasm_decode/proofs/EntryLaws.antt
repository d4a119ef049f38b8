-- The entries of sections: what is read is spelled so, and what is spelled so is read.
use Rattle.std.proofs.Common.{◌≡◌, ℕ, zero, suc, ◌≤◌, ◌-◌, ◌^◌, not, nat_lt, ◌==◌, if◌then◌else◌, List, [], ◌∷◌, ◌++◌, length, replicate, Ok, Option, Some, None, IfSome, inl, inr, refl, sym, ap, subst, ◌∙◌, arith}
use Rattle.std.specs.List.{flat_map}
use Rattle.std.proofs.lemmas.Bool.{eq-eqb, eqb-true, le-ltb, ltb-false, not-false, not_from_true}
use Rattle.std.proofs.lemmas.List.{append-nil, append_assoc, length-append, length-replicate}
use Rattle.wasm_types.specs.declared.val_type.ValType.{ValType}
use Rattle.wasm_types.specs.declared.raw_module.Body.{Body}
use Rattle.wasm_types.specs.declared.raw_module.ElementPart.{ElementPart}
use Rattle.wasm_types.specs.declared.raw_module.Export.{Export}
use Rattle.wasm_types.specs.declared.raw_module.ExportKind.{ExportKind}
use Rattle.wasm_types.specs.declared.raw_module.ExportKind.TheVariants as exports
use Rattle.wasm_types.specs.declared.raw_module.GlobalPart.{GlobalPart}
use Rattle.wasm_types.specs.declared.raw_module.Limits.{Limits}
use Rattle.wasm_types.specs.declared.raw_module.SegmentPart.{SegmentPart}
use Rattle.wasm_types.specs.declared.limits.TheConstants.{MOST_FIRST_PAGES, MOST_LOCALS, MOST_PAGES, MOST_TABLE_ELEMENTS}
use Rattle.wasm_decode.specs.declared.fault.WasmKind.TheVariants as kinds
use Rattle.wasm_decode.specs.Instructions.{SpellsExpression}
use Rattle.wasm_decode.specs.Layout.{◌⨾◌, Just, SpellsAll, SpellsVector, SpellsVectorUpTo}
use Rattle.wasm_decode.specs.Modules.{SpellsBody, SpellsElement, SpellsExport, SpellsGlobal, SpellsGroup, SpellsLocals, SpellsMemory, SpellsSegment, SpellsTable, export_kind}
use Rattle.wasm_decode.specs.ReadingInstructions.{expression_at}
use Rattle.wasm_decode.specs.ReadingSections.{as_export_kind, body_at, counted_at, element_at, export_at, export_kind_at, flag_at, function_at, global_at, groups_at, locals_at, memory_at, segment_at, single_at, table_at}
use Rattle.wasm_decode.specs.ReadingTypes.{limits_at, no_type, switch_at, value_type_at}
use Rattle.wasm_decode.specs.ReadingValues.{byte_at, bytes_at, count_at, items_at, same_count_at, u32_at, vector_at}
use Rattle.wasm_decode.specs.Stops.{◌>>=◌, Found, refused, unless}
use Rattle.wasm_decode.specs.Values.{SpellsU32}
use Rattle.wasm_decode.proofs.ExpressionLaws.{expression_again, expression_takes}
use Rattle.wasm_decode.proofs.Fronts.{Again, Front, Takes, both, chosen, found, go, just_is, left, passes, same_found, seen, split, step}
use Rattle.wasm_decode.proofs.NumberLaws.{u32_again, u32_takes}
use Rattle.wasm_decode.proofs.TypeLaws.{limits_again, limits_take, switch_again, switch_takes, value_type_again, value_type_takes}
use Rattle.wasm_decode.proofs.VectorLaws.{byte_again, byte_takes, bytes_again, bytes_takes, count_again, count_takes, items_again, items_take, name_again, name_takes, one_byte, sized_again, sized_takes, vector_again, vector_takes}

-- ---- tables, memories, globals and exports

-- the items behind their number
abbrev Counted : {A : Type 0} → (A → List ℕ → Type 0) → List A → List ℕ → List ℕ → Type 0
Counted Item all bytes rest = Front (SpellsVector Item all) bytes rest

items_counted : {A : Type 0} (item : List ℕ → Found A) (Item : A → List ℕ → Type 0) → Takes item Item → (n : ℕ) (bytes middle rest : List ℕ) (all : List A) → Front (SpellsU32 n) bytes middle → items_at item [] n middle ≡ Ok (all, rest)
    → (n ≡ length all) × Counted Item all bytes rest
items_counted item Item takes n bytes middle rest all number e =
    let items = items_take item Item takes [] n middle rest all e in
    let long : n ≡ length all = sym items.many ∙ ap length (sym items.joined) in
    (long, both (subst (λ (m : ℕ). Front (SpellsU32 m) bytes middle) long number) (subst (λ xs. Front (SpellsAll Item xs) middle rest) (sym items.joined) items.laid))

pub single_takes : {A : Type 0} (item : List ℕ → Found A) (Item : A → List ℕ → Type 0) → Takes item Item → Takes (single_at item) (SpellsVectorUpTo 1 Item)
unfolding single_at
single_takes {A = A} item Item takes bytes rest all e =
    let n = step {r = u32_at bytes} {next = λ n. (if nat_lt 1 n.0 then refused kinds.Unsupported bytes else items_at item [] n.0 n.1)} e in
    elim (chosen (nat_lt 1 n.value.0) (refused kinds.Unsupported bytes) (items_at item [] n.value.0 n.value.1) (Ok (all, rest)) n.after) [
      | inl many ↦ absurd (refusing many.1)
      | inr few ↦
          let items = items_counted item Item takes n.value.0 bytes n.value.1 rest all (u32_takes bytes n.value.1 n.value.0 n.is) few.1 in
          seen (λ front laid. (omega (arith, ltb-false 1 n.value.0 few.0, items.0), laid)) items.1
    ]
  where
    refusing : (let f : Found (List A) = refused kinds.Unsupported bytes in f) ≡ Ok (all, rest) → ⊥
    refusing f = cc

pub single_again : {A : Type 0} (item : List ℕ → Found A) (Item : A → List ℕ → Type 0) → Again item Item → Again (single_at item) (SpellsVectorUpTo 1 Item)
unfolding single_at
single_again item Item again bytes rest all h =
    let two = split (seen (λ front laid. laid.1) h) in
    go (λ n. (if nat_lt 1 n.0 then refused kinds.Unsupported bytes else items_at item [] n.0 n.1)) (length all, two.middle) (u32_again bytes two.middle (length all) two.first)
    (left (nat_lt 1 (length all)) (refused kinds.Unsupported bytes) (items_at item [] (length all) two.middle) (le-ltb 1 (length all) h.laid.0) ∙ items_again item Item again [] all two.middle rest two.second)

pub table_takes : Takes table_at SpellsTable
unfolding table_at
table_takes bytes rest t e =
    let kind = step {r = byte_at bytes} {next = λ b. (if b.0 == 0x70 then limits_at MOST_TABLE_ELEMENTS (2 ^ 32 - 1) b.1 else refused (no_type b.0) bytes)} e in
    elim (chosen (kind.value.0 == 0x70) (limits_at MOST_TABLE_ELEMENTS (2 ^ 32 - 1) kind.value.1) (refused (no_type kind.value.0) bytes) (Ok (t, rest)) kind.after) [
      | inl is ↦ both (one_byte kind.value.0 0x70 bytes kind.value.1 (byte_takes bytes kind.value.1 kind.value.0 kind.is) (eqb-true kind.value.0 0x70 is.0)) (limits_take MOST_TABLE_ELEMENTS (2 ^ 32 - 1) kind.value.1 rest t is.1)
      | inr other ↦ absurd (refusing kind.value.0 other.1)
    ]
  where
    refusing : (b : ℕ) → (let f : Found Limits = refused (no_type b) bytes in f) ≡ Ok (t, rest) → ⊥
    refusing b f = cc

pub table_again : Again table_at SpellsTable
unfolding table_at
table_again bytes rest t h =
    let two = split h in
    go (λ b. (if b.0 == 0x70 then limits_at MOST_TABLE_ELEMENTS (2 ^ 32 - 1) b.1 else refused (no_type b.0) bytes)) (0x70, two.middle) (byte_again bytes two.middle 0x70 (just_is (0x70 ∷ []) bytes two.middle two.first))
    (limits_again MOST_TABLE_ELEMENTS (2 ^ 32 - 1) two.middle rest t two.second)

pub memory_takes : Takes memory_at SpellsMemory
unfolding memory_at
memory_takes bytes rest m e = limits_take MOST_FIRST_PAGES MOST_PAGES bytes rest m e

pub memory_again : Again memory_at SpellsMemory
unfolding memory_at
memory_again bytes rest m h = limits_again MOST_FIRST_PAGES MOST_PAGES bytes rest m h

pub global_takes : Takes global_at SpellsGlobal
unfolding global_at
global_takes bytes rest g e =
    let t = step e in
    let mutable = step t.after in
    let init = step mutable.after in
    let same = same_found init.after in
    subst (λ (x : GlobalPart). Front (SpellsGlobal x) bytes rest) same.0
    (both (value_type_takes bytes t.value.1 t.value.0 t.is) (both (switch_takes t.value.1 mutable.value.1 mutable.value.0 mutable.is) (expression_takes mutable.value.1 rest init.value.0 (init.is ∙ ap (found init.value.0) same.1))))

pub global_again : Again global_at SpellsGlobal
unfolding global_at
global_again bytes rest g h =
    let two = split h in
    let three = split two.second in
    go (λ t. switch_at t.1 >>= λ m. expression_at m.1 >>= λ e. Ok (record { kind = t.0; mutable = m.0; init = e.0 }, e.1)) (g.kind, two.middle) (value_type_again bytes two.middle g.kind two.first)
    (go (λ m. expression_at m.1 >>= λ e. Ok (record { kind = g.kind; mutable = m.0; init = e.0 }, e.1)) (g.mutable, three.middle) (switch_again two.middle three.middle g.mutable three.first)
    (go (λ e. Ok (record { kind = g.kind; mutable = g.mutable; init = e.0 }, e.1)) (g.init, rest) (expression_again three.middle rest g.init three.second) refl))

-- a byte that is told, or others
told_or : (b n : ℕ) (kind k : ExportKind) (behind rest : List ℕ) (others : Found ExportKind) → n ≡ export_kind kind → (if b == n then found kind behind else others) ≡ Ok (k, rest)
    → (others ≡ Ok (k, rest) → (b ≡ export_kind k) × (behind ≡ rest)) → (b ≡ export_kind k) × (behind ≡ rest)
told_or b n kind k behind rest others is e later =
    elim (chosen (b == n) (found kind behind) others (Ok (k, rest)) e) [
      | inl this ↦ let same = same_found this.1 in (eqb-true b n this.0 ∙ (is ∙ ap export_kind same.0), same.1)
      | inr other ↦ later other.1
    ]

export_kind_told : (place : List ℕ) (b : ℕ) (behind rest : List ℕ) (k : ExportKind) → as_export_kind place (b, behind) ≡ Ok (k, rest) → (b ≡ export_kind k) × (behind ≡ rest)
export_kind_told place b behind rest k e =
    told_or b 0 exports.Function k behind rest _ refl e
    (λ e1. told_or b 1 exports.Table k behind rest _ refl e1
    (λ e2. told_or b 2 exports.Memory k behind rest _ refl e2
    (λ e3. told_or b 3 exports.Global k behind rest _ refl e3 (λ e4. absurd (refusing e4)))))
  where
    refusing : (let f : Found ExportKind = refused kinds.Form place in f) ≡ Ok (k, rest) → ⊥
    refusing f = cc

export_kind_takes : Takes export_kind_at (λ k. Just (export_kind k ∷ []))
unfolding export_kind_at
export_kind_takes bytes rest k e =
    let byte = step e in
    let told = export_kind_told bytes byte.value.0 byte.value.1 rest k byte.after in
    one_byte byte.value.0 (export_kind k) bytes rest (byte_takes bytes byte.value.1 byte.value.0 byte.is ∙ ap (λ (r : List ℕ). byte.value.0 ∷ r) told.1) told.0

export_kind_again : Again export_kind_at (λ k. Just (export_kind k ∷ []))
unfolding export_kind_at
export_kind_again bytes rest exports.Function h = ap export_kind_at (just_is (0 ∷ []) bytes rest h)
export_kind_again bytes rest exports.Table h = ap export_kind_at (just_is (1 ∷ []) bytes rest h)
export_kind_again bytes rest exports.Memory h = ap export_kind_at (just_is (2 ∷ []) bytes rest h)
export_kind_again bytes rest exports.Global h = ap export_kind_at (just_is (3 ∷ []) bytes rest h)

pub export_takes : Takes export_at SpellsExport
unfolding export_at
export_takes bytes rest x e =
    let name = step e in
    let kind = step name.after in
    let index = step kind.after in
    let same = same_found index.after in
    subst (λ (y : Export). Front (SpellsExport y) bytes rest) same.0
    (both (name_takes bytes name.value.1 name.value.0 name.is) (both (export_kind_takes name.value.1 kind.value.1 kind.value.0 kind.is) (u32_takes kind.value.1 rest index.value.0 (index.is ∙ ap (found index.value.0) same.1))))

pub export_again : Again export_at SpellsExport
unfolding export_at
export_again bytes rest x h =
    let two = split h in
    let three = split two.second in
    go (λ n. export_kind_at n.1 >>= λ k. u32_at k.1 >>= λ i. Ok (record { name = n.0; kind = k.0; index = i.0 }, i.1)) (x.name, two.middle) (name_again bytes two.middle x.name two.first)
    (go (λ k. u32_at k.1 >>= λ i. Ok (record { name = x.name; kind = k.0; index = i.0 }, i.1)) (x.kind, three.middle) (export_kind_again two.middle three.middle x.kind three.first)
    (go (λ i. Ok (record { name = x.name; kind = x.kind; index = i.0 }, i.1)) (x.index, rest) (u32_again three.middle rest x.index three.second) refl))

-- ---- segments

flag_takes : (bytes rest : List ℕ) → flag_at bytes ≡ Ok rest → Front (SpellsU32 0) bytes rest
unfolding flag_at
flag_takes bytes rest e =
    let n = step e in
    let test = passes (not (n.value.0 == 0)) kinds.Unsupported bytes n.value.1 rest n.after in
    let h : Front (SpellsU32 n.value.0) bytes rest = u32_takes bytes rest n.value.0 (n.is ∙ ap (found n.value.0) test.1) in
    subst (λ (m : ℕ). Front (SpellsU32 m) bytes rest) (eqb-true n.value.0 0 (not-false (n.value.0 == 0) test.0)) h

flag_again : (bytes rest : List ℕ) → Front (SpellsU32 0) bytes rest → flag_at bytes ≡ Ok rest
unfolding flag_at
flag_again bytes rest h = go (λ n. unless (not (n.0 == 0)) kinds.Unsupported bytes n.1) (0, rest) (u32_again bytes rest 0 h) refl

pub element_takes : Takes element_at SpellsElement
unfolding element_at
element_takes bytes rest x e =
    let offset = step e in
    let flag = step {r = flag_at bytes} {next = expression_at} offset.is in
    let functions = step offset.after in
    let same = same_found functions.after in
    subst (λ (y : ElementPart). Front (SpellsElement y) bytes rest) same.0
    (both (flag_takes bytes flag.value flag.is) (both (expression_takes flag.value offset.value.1 offset.value.0 flag.after)
    (vector_takes (2 ^ 32 - 1) u32_at SpellsU32 u32_takes offset.value.1 rest functions.value.0 (functions.is ∙ ap (found functions.value.0) same.1))))

pub element_again : Again element_at SpellsElement
unfolding element_at
element_again bytes rest x h =
    let two = split h in
    let three = split two.second in
    go (λ e. vector_at (2 ^ 32 - 1) u32_at e.1 >>= λ fs. Ok (record { offset = e.0; functions = fs.0 }, fs.1)) (x.offset, three.middle)
    (go expression_at two.middle (flag_again bytes two.middle two.first) (expression_again two.middle three.middle x.offset three.first))
    (go (λ fs. Ok (record { offset = x.offset; functions = fs.0 }, fs.1)) (x.functions, rest) (vector_again (2 ^ 32 - 1) u32_at SpellsU32 u32_again three.middle rest x.functions three.second) refl)

pub segment_takes : Takes segment_at SpellsSegment
unfolding segment_at
segment_takes bytes rest x e =
    let offset = step e in
    let flag = step {r = flag_at bytes} {next = expression_at} offset.is in
    let held = step offset.after in
    let same = same_found held.after in
    subst (λ (y : SegmentPart). Front (SpellsSegment y) bytes rest) same.0
    (both (flag_takes bytes flag.value flag.is) (both (expression_takes flag.value offset.value.1 offset.value.0 flag.after)
    (bytes_takes offset.value.1 rest held.value.0 (held.is ∙ ap (found held.value.0) same.1))))

pub segment_again : Again segment_at SpellsSegment
unfolding segment_at
segment_again bytes rest x h =
    let two = split h in
    let three = split two.second in
    go (λ e. bytes_at e.1 >>= λ held. Ok (record { offset = e.0; bytes = held.0 }, held.1)) (x.offset, three.middle)
    (go expression_at two.middle (flag_again bytes two.middle two.first) (expression_again two.middle three.middle x.offset three.first))
    (go (λ held. Ok (record { offset = x.offset; bytes = held.0 }, held.1)) (x.bytes, rest) (bytes_again three.middle rest x.bytes three.second) refl)

-- ---- bodies

-- the locals of groups
abbrev locals_of : List (ℕ × ValType) → List ValType
locals_of groups = flat_map (λ g. replicate g.0 g.1) groups

-- groups that are read behind others
record NewGroups (locals all : List ValType) (wanted : ℕ) (bytes rest : List ℕ) : Type 0 where
  new : List (ℕ × ValType)
  joined : all ≡ locals ++ locals_of new
  many : length new ≡ wanted
  small : length all ≤ MOST_LOCALS
  laid : Front (SpellsAll SpellsGroup new) bytes rest

more_locals : (locals : List ValType) (n : ℕ) (t : ValType) → n ≤ MOST_LOCALS - length locals → length locals ≤ MOST_LOCALS → length (locals ++ replicate n t) ≤ MOST_LOCALS
more_locals locals n t few small = omega (arith, length-append locals (replicate n t), length-replicate n t)

groups_take : (locals : List ValType) (wanted : ℕ) (bytes rest : List ℕ) (all : List ValType) → length locals ≤ MOST_LOCALS → groups_at locals wanted bytes ≡ Ok (all, rest) → NewGroups locals all wanted bytes rest
unfolding groups_at
groups_take locals zero bytes rest all small e =
    let same = same_found e in
    record { new = []; joined = sym same.0 ∙ sym (append-nil locals); many = refl; small = subst (λ (ls : List ValType). length ls ≤ MOST_LOCALS) same.0 small; laid = record { front = []; parts = same.1; laid = refl } }
groups_take locals (suc wanted) bytes rest all small e =
    let n = step e in
    let t = step n.after in
    let count = count_takes (MOST_LOCALS - length locals) bytes n.value.1 n.value.0 n.is in
    let more = groups_take (locals ++ replicate n.value.0 t.value.0) wanted t.value.1 rest all (more_locals locals n.value.0 t.value.0 count.0 small) t.after in
    record {
      new = (n.value.0, t.value.0) ∷ more.new;
      joined = more.joined ∙ append_assoc locals (replicate n.value.0 t.value.0) (locals_of more.new);
      many = ap suc more.many;
      small = more.small;
      laid = both (both count.1 (value_type_takes n.value.1 t.value.1 t.value.0 t.is)) more.laid;
    }

groups_again : (locals : List ValType) (new : List (ℕ × ValType)) (bytes rest : List ℕ) → length (locals ++ locals_of new) ≤ MOST_LOCALS → Front (SpellsAll SpellsGroup new) bytes rest
    → groups_at locals (length new) bytes ≡ Ok (locals ++ locals_of new, rest)
unfolding groups_at
groups_again locals [] bytes rest small h = ap (found locals) (just_is [] bytes rest h) ∙ ap (λ (ls : List ValType). found ls rest) (sym (append-nil locals))
groups_again locals ((n, t) ∷ new) bytes rest small h =
    let two = split h in
    let group = split two.first in
    let joined : (locals ++ replicate n t) ++ locals_of new ≡ locals ++ (replicate n t ++ locals_of new) = append_assoc locals (replicate n t) (locals_of new) in
    let few : n ≤ MOST_LOCALS - length locals = omega (arith, small, length-append locals (replicate n t ++ locals_of new), length-append (replicate n t) (locals_of new), length-replicate n t) in
    go (λ m. value_type_at m.1 >>= λ u. groups_at (locals ++ replicate m.0 u.0) (length new) u.1) (n, group.middle) (count_again (MOST_LOCALS - length locals) bytes group.middle n few group.first)
    (go (λ u. groups_at (locals ++ replicate n u.0) (length new) u.1) (t, two.middle) (value_type_again group.middle two.middle t group.second)
    (groups_again (locals ++ replicate n t) new two.middle rest (subst (λ (ls : List ValType). length ls ≤ MOST_LOCALS) (sym joined) small) two.second ∙ ap (λ (ls : List ValType). found ls rest) joined))

pub locals_take : Takes locals_at SpellsLocals
unfolding locals_at
locals_take bytes rest all e =
    let n = step e in
    let few : 0 ≤ MOST_LOCALS = omega arith in
    let groups = groups_take [] n.value.0 n.value.1 rest all few n.after in
    let number : Front (SpellsU32 (length groups.new)) bytes n.value.1 = subst (λ (m : ℕ). Front (SpellsU32 m) bytes n.value.1) (sym groups.many) (u32_takes bytes n.value.1 n.value.0 n.is) in
    seen (λ front laid. (groups.new, groups.joined, groups.small, laid)) (both number groups.laid)

pub locals_again : Again locals_at SpellsLocals
unfolding locals_at
locals_again bytes rest all h =
    let groups : List (ℕ × ValType) = h.laid.0 in
    let vector : Front (SpellsVector SpellsGroup groups) bytes rest = record { front = h.front; parts = h.parts; laid = h.laid.3 } in
    let two = split vector in
    go (λ n. groups_at [] n.0 n.1) (length groups, two.middle) (u32_again bytes two.middle (length groups) two.first)
    (groups_again [] groups two.middle rest (subst (λ (ls : List ValType). length ls ≤ MOST_LOCALS) h.laid.1 h.laid.2) two.second ∙ ap (λ (ls : List ValType). found ls rest) (sym h.laid.1))

-- locals and instructions
abbrev SpellsFunction : Body → List ℕ → Type 0
SpellsFunction b = SpellsLocals b.locals ⨾ SpellsExpression b.code

function_takes : Takes function_at SpellsFunction
unfolding function_at
function_takes bytes rest b e =
    let locals = step e in
    let code = step locals.after in
    let same = same_found code.after in
    subst (λ (x : Body). Front (SpellsFunction x) bytes rest) same.0
    (both (locals_take bytes locals.value.1 locals.value.0 locals.is) (expression_takes locals.value.1 rest code.value.0 (code.is ∙ ap (found code.value.0) same.1)))

function_again : Again function_at SpellsFunction
unfolding function_at
function_again bytes rest b h =
    let two = split h in
    go (λ l. expression_at l.1 >>= λ e. Ok (record { locals = l.0; code = e.0 }, e.1)) (b.locals, two.middle) (locals_again bytes two.middle b.locals two.first)
    (go (λ e. Ok (record { locals = b.locals; code = e.0 }, e.1)) (b.code, rest) (expression_again two.middle rest b.code two.second) refl)

pub body_takes : Takes body_at SpellsBody
unfolding body_at
body_takes bytes rest b e = sized_takes function_at SpellsFunction function_takes bytes rest b e

pub body_again : Again body_at SpellsBody
unfolding body_at
body_again bytes rest b h = sized_again function_at SpellsFunction function_again bytes rest b h

-- ---- a number of items that is given elsewhere

same_count_takes : (wanted most : ℕ) (bytes rest : List ℕ) (n : ℕ) → same_count_at wanted most bytes ≡ Ok (n, rest) → (n ≡ wanted) × (n ≤ most) × Front (SpellsU32 n) bytes rest
unfolding same_count_at
same_count_takes wanted most bytes rest n e =
    let m = step e in
    let test = passes (not (m.value.0 == wanted)) kinds.Form bytes m.value (n, rest) m.after in
    let same = same_found (ap (λ (x : ℕ × List ℕ). found x.0 x.1) test.1) in
    let count = count_takes most bytes rest n (m.is ∙ ap (λ (x : ℕ × List ℕ). found x.0 x.1) test.1) in
    (sym same.0 ∙ eqb-true m.value.0 wanted (not-false (m.value.0 == wanted) test.0), count.0, count.1)

pub counted_takes : {A : Type 0} (wanted : Option ℕ) (most : ℕ) (item : List ℕ → Found A) (Item : A → List ℕ → Type 0) → Takes item Item → (bytes rest : List ℕ) (all : List A) → counted_at wanted most item bytes ≡ Ok (all, rest)
    → IfSome wanted (λ n. n ≡ length all) × Front (SpellsVectorUpTo most Item all) bytes rest
unfolding counted_at
counted_takes None most item Item takes bytes rest all e =
    let n = step {r = count_at most bytes} {next = λ n. items_at item [] n.0 n.1} e in
    let count = count_takes most bytes n.value.1 n.value.0 n.is in
    let items = items_counted item Item takes n.value.0 bytes n.value.1 rest all count.1 n.after in
    (tt, seen (λ front laid. (omega (arith, count.0, items.0), laid)) items.1)
counted_takes (Some wanted) most item Item takes bytes rest all e =
    let n = step {r = same_count_at wanted most bytes} {next = λ n. items_at item [] n.0 n.1} e in
    let same = same_count_takes wanted most bytes n.value.1 n.value.0 n.is in
    let items = items_counted item Item takes n.value.0 bytes n.value.1 rest all same.2 n.after in
    (sym same.0 ∙ items.0, seen (λ front laid. (omega (arith, same.1, items.0), laid)) items.1)

same_count_again : (wanted most : ℕ) (bytes rest : List ℕ) (n : ℕ) → wanted ≡ n → n ≤ most → Front (SpellsU32 n) bytes rest → same_count_at wanted most bytes ≡ Ok (n, rest)
unfolding same_count_at
same_count_again wanted most bytes rest n same few h =
    go (λ m. unless (not (m.0 == wanted)) kinds.Form bytes m) (n, rest) (count_again most bytes rest n few h)
    (left (not (n == wanted)) (refused kinds.Form bytes) (found n rest) (not_from_true (n == wanted) (eq-eqb n wanted (sym same))))

pub counted_again : {A : Type 0} (wanted : Option ℕ) (most : ℕ) (item : List ℕ → Found A) (Item : A → List ℕ → Type 0) → Again item Item → (bytes rest : List ℕ) (all : List A) → IfSome wanted (λ n. n ≡ length all)
    → Front (SpellsVectorUpTo most Item all) bytes rest → counted_at wanted most item bytes ≡ Ok (all, rest)
unfolding counted_at
counted_again None most item Item again bytes rest all same h =
    let two = split (seen (λ front laid. laid.1) h) in
    go (λ n. items_at item [] n.0 n.1) (length all, two.middle) (count_again most bytes two.middle (length all) h.laid.0 two.first)
    (items_again item Item again [] all two.middle rest two.second)
counted_again (Some wanted) most item Item again bytes rest all same h =
    let two = split (seen (λ front laid. laid.1) h) in
    go (λ n. items_at item [] n.0 n.1) (length all, two.middle) (same_count_again wanted most bytes two.middle (length all) same h.laid.0 two.first)
    (items_again item Item again [] all two.middle rest two.second)
