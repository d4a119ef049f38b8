use Rattle.std.proofs.Common.{List, ℕ, [], Bor}
use Rattle.fvm_run.proofs.Moves.{flat_map_at, pieces_stop}
use Rattle.fvm_run.proofs.pieces.write_pieces.Goals as goal

pub returns-in_err-write_whole : goal.returns-in_err-write_whole
returns-in_err-write_whole g c =
    let nothing : Bor (List ℕ) = record { ref_ptr = (0, 0); now = [] } in
    pieces_stop _ _ _ _ _ _ _ _ _ _ _ c.from_residual.ensures.0
    (flat_map_at (λ (piece : Bor (List ℕ)). piece.now) c.args.pieces.now c.loop-piece.piece-index nothing c.loop-piece-test.true)
    c.loop-piece.invariant c.write_whole.ensures.wrote.prefix c.write_whole.ensures.wrote.cause.later c.in_err-write_whole.ensures.wrote.cause.failed
