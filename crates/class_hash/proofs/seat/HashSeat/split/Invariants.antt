use Rattle.class_hash.proofs.seat.HashSeat.split.Given as goal

abbrev pub ghosts-cut : goal.ghosts-cut
ghosts-cut a = record { places = a.away; tickets = a.tickets }
