-- The text of the reports on tipsets. Numbers are decimal, and every line ends with a line feed.
use Rattle.std.specs.Prelude.{◌≡◌, ◌==◌, ℕ, List, ◌++◌, codes, length, if◌then◌else◌}
use Rattle.std.specs.List.{flat_map, enumerate_from}
use Rattle.std.specs.Fmt.{decimal}
use Rattle.hex.specs.Hex.{encode_lower}
use Rattle.cid_core.specs.CidText.{cid_text}
use Rattle.fil_message.specs.declared.receipt.Receipt.{Receipt}
use Rattle.fil_message.specs.declared.receipt.ReceiptLine.{ReceiptLine}
use Rattle.fil_message.specs.declared.tipset.Report.{Report}

-- the bytes that a message returned, in hex, and `-` for none
abbrev pub return_text : List ℕ → List ℕ
return_text bytes = if length bytes == 0 then codes "-" else encode_lower bytes

-- receipt <block> <message>
abbrev pub place_text : ReceiptLine → List ℕ
place_text l = codes "receipt " ++ (decimal l.block ++ (codes " " ++ decimal l.message))

-- exit <code> gas <used> return <hex>
abbrev pub end_text : Receipt → List ℕ
end_text r =
    codes " exit " ++ (decimal r.exit ++ (codes " gas " ++ (decimal r.used ++ (codes " return " ++ (return_text r.returned ++ codes "\n")))))

-- both on one line
abbrev pub receipt_line : ReceiptLine → List ℕ
receipt_line l = place_text l ++ end_text l.receipt

-- a name and a number
abbrev pub number_line : List ℕ → ℕ → List ℕ
number_line name number = name ++ (decimal number ++ codes "\n")

-- tipset <n> epoch <epoch>
abbrev pub head_line : ℕ → ℕ → List ℕ
head_line n epoch = codes "tipset " ++ (decimal n ++ (codes " epoch " ++ (decimal epoch ++ codes "\n")))

-- receipts <CID>, state <CID>
abbrev pub root_lines : Report → List ℕ
root_lines r =
    codes "receipts " ++ (cid_text r.receipts_root ++ (codes "\nstate " ++ (cid_text r.state_root ++ codes "\n")))

-- gas <n>, minted <n>, burned <n>
abbrev pub sum_lines : Report → List ℕ
sum_lines r =
    number_line (codes "gas ") r.gas ++ (number_line (codes "minted ") r.minted ++ number_line (codes "burned ") r.burned)

-- invocations <n>, blocks <n>
abbrev pub count_lines : Report → List ℕ
count_lines r = number_line (codes "invocations ") r.invocations ++ number_line (codes "blocks ") (length r.made)

-- a tipset by its place: its receipts, the roots, the totals, and the end
unfoldable pub tipset_text : ℕ × Report → List ℕ
tipset_text (n, r) =
    head_line n r.epoch ++ (flat_map receipt_line r.lines ++ (root_lines r ++ (sum_lines r ++ (count_lines r ++ codes "end\n"))))

-- the tipsets by their places from 0
abbrev pub reports_text : List Report → List ℕ
reports_text reports = flat_map tipset_text (enumerate_from 0 reports)

-- the roots that are written have a text
pub record HasRootTexts (r : Report) : Type 0 where
  pub receipts : r.receipts_root.version ≡ 1
  pub state : r.state_root.version ≡ 1
