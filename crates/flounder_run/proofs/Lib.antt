mod Charting
mod Doing
