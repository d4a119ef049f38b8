use Rattle.std.proofs.Common.{ap, ◌∙◌, arith}
use Rattle.std.proofs.lemmas.Grind.{common_steps}
use Rattle.dag_cbor.specs.Links.{links_of}
use Rattle.dag_cbor.proofs.LinkEquations.{links_of-Link}
use Rattle.dag_cbor.proofs.LinkSteps.{no_links, list_links, map_links}
use Rattle.dag_cbor.proofs.PutSteps.{put_as}
use Rattle.dag_cbor.proofs.link_list.+collecting.Goals as goal

pub put_links-returns-in-List : goal.put_links-returns-in-List
put_links-returns-in-List t c = put_as _ _ _ _ _ (list_links c.args.value.now c.as_slice.result.now c.in-List.items c.as_slice.ensures c.in-List.is) c.put_links_of_items.ensures

pub put_links-returns-in-Map : goal.put_links-returns-in-Map
put_links-returns-in-Map t c = put_as _ _ _ _ _ (map_links c.args.value.now c.as_slice-in-Map.result.now c.in-Map.pairs c.as_slice-in-Map.ensures c.in-Map.is) c.put_links_of_pairs.ensures

pub put_links-returns-in_ok-push-in-Link : goal.put_links-returns-in_ok-push-in-Link
put_links-returns-in_ok-push-in-Link t c = let is = ap links_of c.in-Link.is ∙ links_of-Link c.in-Link.cid in grind (arith, common_steps)

pub put_links-returns-in-Null : goal.put_links-returns-in-Null
put_links-returns-in-Null t c = no_links c.args.found.now.items c.args.value.now c.in-Null.is

pub put_links-returns-in-Null-2 : goal.put_links-returns-in-Null-2
put_links-returns-in-Null-2 t c = no_links c.args.found.now.items c.args.value.now c.in-Null.is

pub put_links-returns-in-Null-3 : goal.put_links-returns-in-Null-3
put_links-returns-in-Null-3 t c = no_links c.args.found.now.items c.args.value.now c.in-Null.is

pub put_links-returns-in-Null-4 : goal.put_links-returns-in-Null-4
put_links-returns-in-Null-4 t c = no_links c.args.found.now.items c.args.value.now c.in-Null.is

pub put_links-returns-in-Null-5 : goal.put_links-returns-in-Null-5
put_links-returns-in-Null-5 t c = no_links c.args.found.now.items c.args.value.now c.in-Null.is
