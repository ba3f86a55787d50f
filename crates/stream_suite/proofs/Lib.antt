mod Changing
