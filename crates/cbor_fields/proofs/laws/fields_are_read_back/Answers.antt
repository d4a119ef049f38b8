use Rattle.cbor_fields.proofs.ReadBack.{read_number, read_amount, read_cid, read_bytes, read_items, read_list}
use Rattle.cbor_fields.proofs.laws.fields_are_read_back.Goals as goal

pub returns : goal.returns
returns c = record {
  numbers = read_number;
  amounts = read_amount;
  cids = read_cid;
  bytes = read_bytes;
  items = read_items;
  lists = read_list;
}
