-- `explain_entries::entry_bytes` meets its contract: each write fills in one more field. Assumes nothing.
use Rattle.rules.proofs.Kit.{rules}
use Rattle.rules.proofs.Kit.{◌≡◌, refl, arith, lit≤, replicate, length-set, w64, of_z}
use Rattle.rules.specs.{Limits.explanation_bytes, Wide.val, Explain.explanation_record}
use Rattle.endian_writing.proofs.Stored.{byte_patch}
use Rattle.packing.proofs.Packing.{laid_none, laid_more, laid_all}
use Rattle.explain_entries.proofs.entry.entry_bytes.Goals as goal

pub returns : goal.returns
unfolding explanation_record
returns c =
    let a = c.args in
    let n = a.told in
    -- the utility goes in as its 64 bits
    let utility : c.signed_bits.result ≡ of_z w64 n.utility = search rules in
    let l0 = laid_none (replicate explanation_bytes 0) in
    let l1 = laid_more l0 0 4 a.model.model_id c.put32.ensures refl (lit≤ tt) in
    let l2 = laid_more l1 4 2 a.place c.put16.ensures refl (lit≤ tt) in
    let l3 = laid_more l2 6 1 n.kind (byte_patch _ 6 n.kind (omega arith) (omega arith)) refl (lit≤ tt) in
    let l4 = laid_more l3 7 1 n.gate (byte_patch _ 7 n.gate (simp length-set (omega arith)) (omega arith)) refl (lit≤ tt) in
    let l5 = laid_more l4 8 16 (val n.first) c.put_wide.ensures refl (lit≤ tt) in
    let l6 = laid_more l5 24 16 (val n.second) c.put_wide-2.ensures refl (lit≤ tt) in
    let l7 = laid_more l6 40 8 n.cost c.put64.ensures refl (lit≤ tt) in
    let l8 = laid_more l7 48 16 (val n.latency) c.put_wide-3.ensures refl (lit≤ tt) in
    let l9 = laid_more l8 64 8 (of_z w64 n.utility) (rw utility at c.put64-2.ensures) refl (lit≤ tt) in
    laid_all l9 refl
