-- What the program prints of the log of each example run: a line for each model.
use Rattle.std.specs.Prelude.{ℕ, List, ◌++◌, codes}

abbrev pub no_events : List ℕ
no_events =
    codes "RC20 consistent\n"
    ++ (codes "RA consistent\n"
    ++ (codes "SRA consistent\n"
    ++ (codes "WRA consistent\n"
    ++ codes "RELAXED consistent\n")))

abbrev pub two_writes_each_way : List ℕ
two_writes_each_way =
    codes "RC20 consistent 1:5<1 2:2<4\n"
    ++ (codes "RA consistent 1:5<1 2:2<4\n"
    ++ (codes "SRA inconsistent WHOLE 1 2 4 5\n"
    ++ (codes "WRA consistent\n"
    ++ codes "RELAXED consistent 1:5<1 2:2<4\n")))

abbrev pub handing_over : List ℕ
handing_over =
    codes "RC20 inconsistent ROUND 1:1>2,2>1\n"
    ++ (codes "RA inconsistent ROUND 1:1>2,2>1\n"
    ++ (codes "SRA inconsistent WHOLE 1 2\n"
    ++ (codes "WRA inconsistent WEAK 1 2 5\n"
    ++ codes "RELAXED consistent 1:1<2 2:3\n")))

abbrev pub handing_over_relaxed : List ℕ
handing_over_relaxed =
    codes "RC20 consistent 1:1<2 2:3\n"
    ++ (codes "RA inconsistent ROUND 1:1>2,2>1\n"
    ++ (codes "SRA inconsistent WHOLE 1 2\n"
    ++ (codes "WRA inconsistent WEAK 1 2 5\n"
    ++ codes "RELAXED consistent 1:1<2 2:3\n")))

abbrev pub twin : List ℕ
twin =
    codes "RC20 inconsistent TWIN 2 3\n"
    ++ (codes "RA inconsistent TWIN 2 3\n"
    ++ (codes "SRA refused 24 2\n"
    ++ (codes "WRA inconsistent TWIN 2 3\n"
    ++ codes "RELAXED inconsistent TWIN 2 3\n")))

abbrev pub back : List ℕ
back =
    codes "RC20 inconsistent BACK 2 1\n"
    ++ (codes "RA inconsistent BACK 2 1\n"
    ++ (codes "SRA refused 24 2\n"
    ++ (codes "WRA inconsistent WEAK 1 2 3\n"
    ++ codes "RELAXED inconsistent BACK 2 1\n")))

abbrev pub load_buffering : List ℕ
load_buffering =
    codes "RC20 inconsistent CAUSAL 1 2 3 4\n"
    ++ (codes "RA inconsistent CAUSAL 1 2 3 4\n"
    ++ (codes "SRA inconsistent CAUSAL 1 2 3 4\n"
    ++ (codes "WRA inconsistent CAUSAL 1 2 3 4\n"
    ++ codes "RELAXED inconsistent CAUSAL 1 2 3 4\n")))

abbrev pub update_in_between : List ℕ
update_in_between =
    codes "RC20 consistent 1:3<1<2\n"
    ++ (codes "RA consistent 1:3<1<2\n"
    ++ (codes "SRA refused 24 2\n"
    ++ (codes "WRA consistent\n"
    ++ codes "RELAXED consistent 1:3<1<2\n")))

abbrev pub orders_that_differ : List ℕ
orders_that_differ =
    codes "RC20 consistent 1:4 2:2<3\n"
    ++ (codes "RA consistent 1:4 2:2<3\n"
    ++ (codes "SRA consistent 1:4 2:3<2\n"
    ++ (codes "WRA consistent\n"
    ++ codes "RELAXED consistent 1:4 2:2<3\n")))
