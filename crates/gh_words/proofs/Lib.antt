mod Spread
