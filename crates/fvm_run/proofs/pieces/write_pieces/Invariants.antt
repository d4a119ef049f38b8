use Rattle.std.proofs.Common.{take}
use Rattle.std.specs.List.{flat_map}
use Rattle.fvm_run.proofs.Moves.{PiecesSoFar}
use Rattle.fvm_run.proofs.pieces.write_pieces.Given as goal

abbrev pub invariant-loop-piece : goal.invariant-loop-piece
invariant-loop-piece g l = PiecesSoFar (g.E.Sink.taken l.fn.sink) (g.E.Sink.taken l.sink) (g.E.Sink.faults l.fn.sink) (g.E.Sink.faults l.sink) (flat_map (λ piece. piece.now) (take l.piece-index l.pieces))
