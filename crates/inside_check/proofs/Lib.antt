mod EqualPairs
