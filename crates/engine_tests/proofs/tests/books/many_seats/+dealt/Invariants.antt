use Rattle.engine_tests.proofs.tests.books.many_seats.+dealt.Given as goal

-- so many numbers are left to deal
abbrev pub decreases-dealt : goal.decreases-dealt
decreases-dealt g l = l.left
